use Rattle.std.proofs.Common.{◌≡◌}
use Rattle.task_machine.proofs.tests.counts_a_message.Given as goal

abbrev pub invariant-loop-mark : goal.invariant-loop-mark
invariant-loop-mark g l = l.machine.program ≡ l.initial.machine.program
