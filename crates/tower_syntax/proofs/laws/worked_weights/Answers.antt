use Rattle.tower_syntax.proofs.laws.worked_weights.Goals as goal
use Rattle.tower_syntax.proofs.WeightRows.{worked_weights}

pub returns : goal.returns
returns c = worked_weights
