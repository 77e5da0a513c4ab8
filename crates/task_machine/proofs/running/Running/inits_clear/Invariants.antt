use Rattle.std.proofs.Common.{◌≡◌}
use Rattle.task_machine.proofs.Stands.{clear_from}
use Rattle.task_machine.proofs.running.Running.inits_clear.Given as goal

abbrev pub invariant-loop-x : goal.invariant-loop-x
invariant-loop-x l =
    clear_from l.self.events.kinds l.self.program.tasks l.self.machine.tasks l.self.machine.queues l.x
    ≡ clear_from l.self.events.kinds l.self.program.tasks l.self.machine.tasks l.self.machine.queues 0
