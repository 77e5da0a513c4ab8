use Rattle.lock_reduction.proofs.laws.outputs_are_the_replays.Goals as goal
use Rattle.lock_reduction.proofs.Consequences.{outputs}

pub returns : goal.returns
returns c arch p sound events steps r fit e = outputs arch p sound events steps r fit e
