use Rattle.tower_meaning.proofs.laws.worked_places.Goals as goal
use Rattle.tower_meaning.proofs.RunRows.{places}

pub returns : goal.returns
returns c = places
