use Rattle.task_code.proofs.laws.worked_listing.Goals as goal
use Rattle.task_code.proofs.Rows.{worked}

pub returns : goal.returns
returns c = worked
