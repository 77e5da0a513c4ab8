use Rattle.std.specs.Prelude.{codes}
use Rattle.tower_report.specs.GeneratedText.{number_line}
use Rattle.tower_report.proofs.Puts.{Puts-then, Puts-fail, Puts-stop, Puts-err}
use Rattle.tower_report.proofs.generated.put_weights.Goals as goal

pub returns-in_err-put_number_line : goal.returns-in_err-put_number_line
returns-in_err-put_number_line g c = let told = c.args.generated.now in Puts-err _ c.from_residual.ensures.0 (Puts-stop (number_line (codes "code") told.code) (Puts-stop (number_line (codes "memory") told.memory) (Puts-stop (number_line (codes "cost") told.cost) c.in_err-put_number_line.ensures)))

pub returns-in_err-put_number_line-2 : goal.returns-in_err-put_number_line-2
returns-in_err-put_number_line-2 g c = let told = c.args.generated.now in Puts-err _ c.from_residual-in_err-put_number_line-2.ensures.0 (Puts-stop (number_line (codes "code") told.code) (Puts-stop (number_line (codes "memory") told.memory) (Puts-fail c.in_ok-put_number_line.ensures c.in_err-put_number_line-2.ensures)))

pub returns-in_err-put_number_line-3 : goal.returns-in_err-put_number_line-3
returns-in_err-put_number_line-3 g c = let told = c.args.generated.now in Puts-err _ c.from_residual-in_err-put_number_line-3.ensures.0 (Puts-stop (number_line (codes "code") told.code) (Puts-fail (Puts-then c.in_ok-put_number_line.ensures c.in_ok-put_number_line-2.ensures) c.in_err-put_number_line-3.ensures))

pub returns-in_err-put_number_line-4 : goal.returns-in_err-put_number_line-4
returns-in_err-put_number_line-4 g c = let told = c.args.generated.now in Puts-err _ c.from_residual-in_err-put_number_line-4.ensures.0 (Puts-fail (Puts-then (Puts-then c.in_ok-put_number_line.ensures c.in_ok-put_number_line-2.ensures) c.in_ok-put_number_line-3.ensures) c.in_err-put_number_line-4.ensures)

pub returns : goal.returns
returns g c = (Puts-then (Puts-then (Puts-then c.in_ok-put_number_line.ensures c.in_ok-put_number_line-2.ensures) c.in_ok-put_number_line-3.ensures) c.in_ok-put_number_line-4.ensures)
