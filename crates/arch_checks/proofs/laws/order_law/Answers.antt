use Rattle.arch_checks.proofs.InOrder.{system_in_order}
use Rattle.arch_checks.proofs.laws.order_law.Goals as goal

pub returns : goal.returns
returns c = system_in_order
