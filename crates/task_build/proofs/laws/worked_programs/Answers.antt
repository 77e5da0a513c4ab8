use Rattle.task_build.proofs.laws.worked_programs.Goals as goal
use Rattle.task_build.proofs.Rows.{worked}

pub returns : goal.returns
returns c = worked
