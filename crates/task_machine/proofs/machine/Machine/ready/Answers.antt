use Rattle.std.proofs.Common.{◌≡◌, length, ap, ◌∙◌}
use Rattle.task_machine.proofs.Going.{length_ready}
use Rattle.task_machine.proofs.machine.Machine.ready.Goals as goal

pub returns-clause-count : goal.returns-clause-count
returns-clause-count c =
    rw (← c.self.view_is) (ap length (c.ready.ensures c.self.inside.running c.self.invariant) ∙ length_ready c.self.inside.running)
