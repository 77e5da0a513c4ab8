use Rattle.arch_types.proofs.InOrder.{in_file_order}
use Rattle.arch_types.proofs.laws.trees_are_in_order.Goals as goal

pub returns : goal.returns
returns c = in_file_order
