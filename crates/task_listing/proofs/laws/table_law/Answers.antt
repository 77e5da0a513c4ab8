use Rattle.task_listing.proofs.Wrong.{rows}
use Rattle.task_listing.proofs.laws.table_law.Goals as goal

pub returns : goal.returns
returns c = rows
