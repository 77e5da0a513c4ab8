use Rattle.tower_report.proofs.Puts.{Puts-then, Puts-fail, Puts-stop, Puts-same, Puts-err}
use Rattle.tower_report.proofs.faults.put_next.Goals as goal

pub returns-in_err-put_piece : goal.returns-in_err-put_piece
returns-in_err-put_piece g c = Puts-err _ c.from_residual.ensures.0 (Puts-stop c.args.name.now c.in_err-put_piece.ensures)

pub returns-in_err-put_piece-2 : goal.returns-in_err-put_piece-2
returns-in_err-put_piece-2 g c =
    Puts-err _ c.from_residual-in_err-put_piece-2.ensures.0 (Puts-fail c.in_ok-put_piece.ensures (Puts-same c.bytes.ensures.value c.in_err-put_piece-2.ensures))

pub returns : goal.returns
returns g c = Puts-then c.in_ok-put_piece.ensures (Puts-same c.bytes.ensures.value c.in_ok-put_piece-2.ensures)
