use Rattle.run_order.proofs.Whole.{run_texts_are_orders}
use Rattle.run_order.proofs.laws.run_texts_are_orders.Goals as goal

pub returns : goal.returns
returns c = run_texts_are_orders
