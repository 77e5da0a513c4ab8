use Rattle.tower_reader.proofs.SameLine.{alike_print_same, same_print_alike}
use Rattle.tower_reader.proofs.laws.alike_law.Goals as goal

pub returns-clause-same_line : goal.returns-clause-same_line
returns-clause-same_line c = alike_print_same

pub returns-clause-alike : goal.returns-clause-alike
returns-clause-alike c = same_print_alike
