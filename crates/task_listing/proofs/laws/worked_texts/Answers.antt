use Rattle.task_listing.proofs.Worked.{worked}
use Rattle.task_listing.proofs.laws.worked_texts.Goals as goal

pub returns : goal.returns
returns c = worked
