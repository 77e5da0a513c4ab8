use Rattle.tower_types.proofs.Lawful.{divides}
use Rattle.tower_types.proofs.laws.dividing.Goals as goal

pub returns : goal.returns
returns c = divides
