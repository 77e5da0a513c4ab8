use Rattle.task_policies.proofs.laws.worked_cores.Goals as goal
use Rattle.task_policies.proofs.Rows.{cores}

pub returns : goal.returns
returns c = cores
