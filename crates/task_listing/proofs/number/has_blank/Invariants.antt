use Rattle.std.proofs.Common.{◌≡◌, drop}
use Rattle.task_listing.specs.Numbers.{has_blank}
use Rattle.task_listing.proofs.number.has_blank.Given as goal

abbrev pub invariant-loop-byte : goal.invariant-loop-byte
invariant-loop-byte l = has_blank (drop l.byte-index l.text) ≡ has_blank l.text
