use Rattle.tower_types.proofs.Lawful.{zero_values}
use Rattle.tower_types.proofs.laws.zero_values.Goals as goal

pub returns : goal.returns
returns c = zero_values
