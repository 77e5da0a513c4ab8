use Rattle.task_build.proofs.laws.programs_are_shaped.Goals as goal
use Rattle.task_build.proofs.Weighed.{shaped}

pub returns : goal.returns
returns c = shaped
