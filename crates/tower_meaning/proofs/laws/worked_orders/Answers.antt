use Rattle.tower_meaning.proofs.laws.worked_orders.Goals as goal
use Rattle.tower_meaning.proofs.RunRows.{orders}

pub returns : goal.returns
returns c = orders
