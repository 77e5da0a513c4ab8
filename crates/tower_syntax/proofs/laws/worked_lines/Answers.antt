use Rattle.tower_syntax.proofs.laws.worked_lines.Goals as goal
use Rattle.tower_syntax.proofs.LineRows.{worked_lines}

pub returns : goal.returns
returns c = worked_lines
