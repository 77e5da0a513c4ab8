use Rattle.tower_report.proofs.Puts.{Puts-fail, Puts-err}
use Rattle.tower_report.proofs.pieces.put_line.Goals as goal

pub returns-in_err-put_piece : goal.returns-in_err-put_piece
returns-in_err-put_piece g c =
    Puts-err _ c.from_residual-in_err-put_piece.ensures.0 (Puts-fail c.in_ok-put_spaced.ensures c.in_err-put_piece.ensures)
