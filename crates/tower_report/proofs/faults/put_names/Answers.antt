use Rattle.std.proofs.Common.{◌∷◌, sym, arith}
use Rattle.tower_report.proofs.Puts.{Puts-err}
use Rattle.tower_report.proofs.Lines.{Puts-row, Puts-row-part}
use Rattle.tower_report.proofs.faults.put_names.Goals as goal

pub returns-in_err-put_next : goal.returns-in_err-put_next
returns-in_err-put_next g c =
    Puts-err _ c.from_residual.ensures.0
    (Puts-row-part (λ name. 32 ∷ name) c.args.names.now c.loop-name.name-index c.name-item.result (omega arith) (sym c.name-item.is) c.loop-name.invariant c.in_err-put_next.ensures)

pub loop-name-preserved : goal.loop-name-preserved
loop-name-preserved g c =
    Puts-row (λ name. 32 ∷ name) c.args.names.now c.loop-name.name-index c.name-item.result (omega arith) (sym c.name-item.is) c.loop-name.invariant c.in_ok-put_next.ensures
