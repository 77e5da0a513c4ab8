use Rattle.std.proofs.Common.{◌≡◌, ◌++◌, drop}
use Rattle.task_listing.specs.Lines.{texts}
use Rattle.task_listing.specs.Spelling.{natural}
use Rattle.task_listing.specs.Writing.{after_blank}
use Rattle.task_listing.proofs.writing.put_numbers.Given as goal

abbrev pub invariant-loop-number : goal.invariant-loop-number
invariant-loop-number l = l.out.items ++ texts (λ n. after_blank (natural n)) (drop l.number-index l.numbers) ≡ l.initial.out.items ++ texts (λ n. after_blank (natural n)) l.numbers
