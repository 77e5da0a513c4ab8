use Rattle.std.proofs.Common.{◌≡◌, drop}
use Rattle.task_listing.specs.Numbers.{are_digits}
use Rattle.task_listing.proofs.number.are_digits.Given as goal

abbrev pub invariant-loop-byte : goal.invariant-loop-byte
invariant-loop-byte l = are_digits (drop l.byte-index l.text) ≡ are_digits l.text
