use Rattle.std.proofs.Common.{refl}
use Rattle.task_machine.specs.State.{does_next}
use Rattle.task_machine.proofs.Settling.{left_by}
use Rattle.task_machine.proofs.machine.Machine.step.Goals as goal

pub settle-requires-clause-left : goal.settle-requires-clause-left
settle-requires-clause-left c =
    rw (c.touched-touched.ensures.monitor, c.turn-mark.ensures.state)
    (left_by c.self.inside.running c.self.inside.noted c.args.x (does_next c.self.inside.running c.args.x) refl c.self.invariant)
