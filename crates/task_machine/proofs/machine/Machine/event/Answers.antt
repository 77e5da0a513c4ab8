use Rattle.std.proofs.Common.{Some}
use Rattle.task_machine.specs.Arriving.{reaches}
use Rattle.task_machine.proofs.Settling.{reached_by}
use Rattle.task_machine.proofs.machine.Machine.event.Goals as goal

pub reach-requires : goal.reach-requires
reach-requires c =
    reached_by (reaches (Some c.in-Some.arrival) c.event.new.self) c.self.inside.running c.event.new.self c.self.inside.noted c.in-Some.ensures.stays c.self.invariant
