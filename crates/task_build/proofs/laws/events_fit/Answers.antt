use Rattle.task_build.proofs.laws.events_fit.Goals as goal
use Rattle.task_build.proofs.Arrivals.{accepted_fit}

pub returns : goal.returns
returns c = accepted_fit
