use Rattle.tower_report.proofs.TextRows.{worked_values, worked_lines}
use Rattle.tower_report.proofs.laws.worked_texts.Goals as goal

pub returns-clause-values : goal.returns-clause-values
returns-clause-values c = worked_values

pub returns-clause-lines : goal.returns-clause-lines
returns-clause-lines c = worked_lines
