use Rattle.tower_meaning.proofs.laws.worked_barrier.Goals as goal
use Rattle.tower_meaning.proofs.RunRows.{barrier}

pub returns : goal.returns
returns c = barrier
