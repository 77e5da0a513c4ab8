use Rattle.std.proofs.Common.{◌≡◌, drop, false}
use Rattle.tower_syntax.specs.Spelling.{goes_on}
use Rattle.tower_syntax.proofs.spelling.goes_on.Given as goal

abbrev pub invariant-loop-byte : goal.invariant-loop-byte
invariant-loop-byte l = goes_on l.after_underscore (drop l.byte-index l.text) ≡ goes_on false l.text
