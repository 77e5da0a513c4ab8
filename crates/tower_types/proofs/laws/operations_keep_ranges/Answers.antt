use Rattle.tower_types.proofs.Lawful.{keeps_ranges}
use Rattle.tower_types.proofs.laws.operations_keep_ranges.Goals as goal

pub returns : goal.returns
returns c = keeps_ranges
