use Rattle.tower_report.proofs.FaultRows.{worked_faults}
use Rattle.tower_report.proofs.laws.worked_faults.Goals as goal

pub returns : goal.returns
returns c = worked_faults
