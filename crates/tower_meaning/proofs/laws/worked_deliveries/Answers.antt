use Rattle.tower_meaning.proofs.laws.worked_deliveries.Goals as goal
use Rattle.tower_meaning.proofs.RunRows.{deliveries}

pub returns : goal.returns
returns c = deliveries
