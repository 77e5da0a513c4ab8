use Rattle.std.proofs.Common.{◌++◌, List, ℕ, take}
use Rattle.tower_reader.specs.Standing.{StandsFor}
use Rattle.tower_reader.proofs.reader.Reader.take_piece.Given as goal

abbrev pub invariant-loop-byte : goal.invariant-loop-byte
invariant-loop-byte l = (bs : List ℕ) → StandsFor l.initial.self bs → StandsFor l.self (bs ++ take l.byte-index l.piece)
