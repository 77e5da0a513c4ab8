use Rattle.thread_split.proofs.Planned.{plans_hold}
use Rattle.thread_split.proofs.laws.plans_law.Goals as goal

pub returns : goal.returns
returns c = plans_hold
