use Rattle.std.proofs.Common.{◌≡◌, replicate, pos}
use Rattle.task_machine.proofs.start.zero_slots.Given as goal

abbrev pub invariant-loop : goal.invariant-loop
invariant-loop l = l.slots.items ≡ replicate l.counter (replicate l.buffer.width (pos 0))
