use Rattle.task_policies.proofs.laws.worked_ceilings.Goals as goal
use Rattle.task_policies.proofs.Rows.{ceilings}

pub returns : goal.returns
returns c = ceilings
