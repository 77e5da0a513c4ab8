use Rattle.std.proofs.Common.{take, drop}
use Rattle.std.proofs.lemmas.List.{take-append-drop}
use Rattle.tower_reader.proofs.Standing.{longer}
use Rattle.tower_reader.proofs.reader.Reader.take_piece.Goals as goal

pub returns-in-Long : goal.returns-in-Long
returns-in-Long c = λ bs h.
    let i = c.loop-byte.byte-index in
    let piece = c.args.piece.now in
    longer c.loop-byte.self bs (take i piece) (drop i piece) piece c.in-Long.is (take-append-drop i piece) (c.loop-byte.invariant bs h)
