use Rattle.arch_types.proofs.NumberRows.{worked}
use Rattle.arch_types.proofs.laws.worked_numbers.Goals as goal

pub returns : goal.returns
returns c = worked
