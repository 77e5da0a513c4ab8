use Rattle.std.proofs.Common.{◌≡◌, replicate}
use Rattle.task_machine.specs.Bits.{words_for}
use Rattle.task_machine.proofs.noted.no_rows.Given as goal

abbrev pub invariant-loop : goal.invariant-loop
invariant-loop l = l.rows.items ≡ replicate l.counter (replicate (words_for l.tasks) 0)
