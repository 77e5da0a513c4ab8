use Rattle.tower_meaning.proofs.laws.worked_statements.Goals as goal
use Rattle.tower_meaning.proofs.BodyRows.{statements}

pub returns : goal.returns
returns c = statements
