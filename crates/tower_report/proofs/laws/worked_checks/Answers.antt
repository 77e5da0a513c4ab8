use Rattle.tower_report.proofs.FaultRows.{worked_checks}
use Rattle.tower_report.proofs.laws.worked_checks.Goals as goal

pub returns : goal.returns
returns c = worked_checks
