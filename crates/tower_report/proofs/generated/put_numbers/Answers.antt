use Rattle.tower_report.specs.EndText.{count_line}
use Rattle.tower_report.specs.GeneratedText.{marks_text}
use Rattle.tower_report.proofs.Puts.{Puts-then, Puts-fail, Puts-stop, Puts-err}
use Rattle.tower_report.proofs.generated.put_numbers.Goals as goal

pub returns-in_err-put_weights : goal.returns-in_err-put_weights
returns-in_err-put_weights g c = let told = c.args.generated.now in Puts-err _ c.from_residual.ensures.0 (Puts-stop (count_line told.count) (Puts-stop (marks_text told) c.in_err-put_weights.ensures))

pub returns-in_err-put_marks : goal.returns-in_err-put_marks
returns-in_err-put_marks g c = let told = c.args.generated.now in Puts-err _ c.from_residual-in_err-put_marks.ensures.0 (Puts-stop (count_line told.count) (Puts-fail c.in_ok-put_weights.ensures c.in_err-put_marks.ensures))

pub returns-in_err-put_number_line : goal.returns-in_err-put_number_line
returns-in_err-put_number_line g c = let told = c.args.generated.now in Puts-err _ c.from_residual-in_err-put_number_line.ensures.0 (Puts-fail (Puts-then c.in_ok-put_weights.ensures c.in_ok-put_marks.ensures) c.in_err-put_number_line.ensures)

pub returns : goal.returns
returns g c = (Puts-then (Puts-then c.in_ok-put_weights.ensures c.in_ok-put_marks.ensures) c.in_ok-put_number_line.ensures)
