use Rattle.tower_meaning.proofs.laws.worked_misfits.Goals as goal
use Rattle.tower_meaning.proofs.RunRows.{misfits}

pub returns : goal.returns
returns c = misfits
