use Rattle.lock_reduction.proofs.laws.no_task_waits_for_itself.Goals as goal
use Rattle.lock_reduction.proofs.Consequences.{apart, no_deadlock}

pub returns-clause-deadlock : goal.returns-clause-deadlock
returns-clause-deadlock c arch p sound events steps r fit e = no_deadlock arch p sound events steps r fit e

pub returns-clause-apart : goal.returns-clause-apart
returns-clause-apart c arch p sound events steps r fit e = apart arch p sound events steps r fit e
