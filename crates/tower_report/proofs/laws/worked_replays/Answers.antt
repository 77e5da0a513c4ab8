use Rattle.tower_report.proofs.RunRows.{worked_replays}
use Rattle.tower_report.proofs.laws.worked_replays.Goals as goal

pub returns : goal.returns
returns c = worked_replays
