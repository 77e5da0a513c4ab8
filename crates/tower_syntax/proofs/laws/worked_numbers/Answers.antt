use Rattle.tower_syntax.proofs.laws.worked_numbers.Goals as goal
use Rattle.tower_syntax.proofs.NumberRows.{clock_is_well_numbered}

pub returns : goal.returns
returns c = clock_is_well_numbered
