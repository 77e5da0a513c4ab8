use Rattle.task_listing.proofs.WorkedTable.{worked_table}
use Rattle.task_listing.proofs.laws.worked_table.Goals as goal

pub returns : goal.returns
returns c = worked_table
