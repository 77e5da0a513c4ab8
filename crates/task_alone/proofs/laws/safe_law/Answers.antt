use Rattle.task_alone.proofs.laws.safe_law.Goals as goal
use Rattle.task_alone.proofs.Adequate.{nothing_missing, is_safe}

pub returns : goal.returns
returns c s p t x = (nothing_missing s p t x, is_safe s p t x)
