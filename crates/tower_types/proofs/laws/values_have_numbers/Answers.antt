use Rattle.tower_types.proofs.Lawful.{values_have_numbers}
use Rattle.tower_types.proofs.laws.values_have_numbers.Goals as goal

pub returns : goal.returns
returns c = values_have_numbers
