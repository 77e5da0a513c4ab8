use Rattle.tower_meaning.proofs.laws.worked_arithmetic.Goals as goal
use Rattle.tower_meaning.proofs.BodyRows.{arithmetic}

pub returns : goal.returns
returns c = arithmetic
