use Rattle.tower_meaning.proofs.laws.worked_depths.Goals as goal
use Rattle.tower_meaning.proofs.RunRows.{depths}

pub returns : goal.returns
returns c = depths
