use Rattle.task_policies.proofs.laws.cores_add_up.Goals as goal
use Rattle.task_policies.proofs.Sums.{cores_add_up}

pub returns : goal.returns
returns c = cores_add_up
