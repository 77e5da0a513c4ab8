use Rattle.task_build.proofs.laws.worked_runs.Goals as goal
use Rattle.task_build.proofs.Rows.{run}

pub returns : goal.returns
returns c = run
