use Rattle.tower_gen.proofs.MadeRight
use Rattle.tower_gen.proofs.laws.made_files_are_accepted.Goals as goal

pub returns-clause-numbers : goal.returns-clause-numbers
returns-clause-numbers c = MadeRight.made_files_are_right

pub returns-clause-draws : goal.returns-clause-draws
returns-clause-draws c = MadeRight.drawn_files_are_right

pub returns-clause-ranges : goal.returns-clause-ranges
returns-clause-ranges c = MadeRight.draws_are_in_range
