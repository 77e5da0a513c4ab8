use Rattle.tower_report.proofs.RunRows.{worked_runs}
use Rattle.tower_report.proofs.laws.worked_runs.Goals as goal

pub returns : goal.returns
returns c = worked_runs
