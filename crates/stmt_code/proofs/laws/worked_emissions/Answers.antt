use Rattle.stmt_code.proofs.laws.worked_emissions.Goals as goal
use Rattle.stmt_code.proofs.Rows.{worked}

pub returns : goal.returns
returns c = worked
