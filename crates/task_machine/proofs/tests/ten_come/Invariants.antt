use Rattle.std.proofs.Common.{◌≡◌}
use Rattle.task_machine.proofs.tests.ten_come.Given as goal

abbrev pub invariant-loop : goal.invariant-loop
invariant-loop g l = l.machine.program ≡ l.initial.machine.program
