use Rattle.tower_types.proofs.Lawful.{wraps}
use Rattle.tower_types.proofs.laws.wrapping.Goals as goal

pub returns : goal.returns
returns c = wraps
