use Rattle.std.proofs.Common.{◌≡◌, ◌++◌, drop}
use Rattle.task_listing.specs.Lines.{texts}
use Rattle.task_listing.specs.Listing.{number_text}
use Rattle.task_listing.proofs.writing.put_counted.Given as goal

abbrev pub invariant-loop-number : goal.invariant-loop-number
invariant-loop-number l = l.out.items ++ texts (number_text l.word) (drop l.number-index l.numbers) ≡ l.initial.out.items ++ texts (number_text l.word) l.numbers
