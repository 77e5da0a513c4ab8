use Rattle.lock_reduction.proofs.laws.a_run_rests_idle.Goals as goal
use Rattle.lock_reduction.proofs.Consequences.{rests}

pub returns : goal.returns
returns c arch p sound events steps r fit e = rests arch p sound events steps r fit e
