use Rattle.tower_reader.proofs.PrintedRows.{worked_printed}
use Rattle.tower_reader.proofs.laws.worked_printed.Goals as goal

pub returns : goal.returns
returns c = worked_printed
