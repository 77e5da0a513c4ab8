use Rattle.task_listing.proofs.Wrong.{right_lines, wrong_lines, wrong_numbers, no_other, wrong_places}
use Rattle.task_listing.proofs.laws.line_law.Goals as goal

pub returns-clause-right : goal.returns-clause-right
returns-clause-right c = right_lines

pub returns-clause-line : goal.returns-clause-line
returns-clause-line c = wrong_lines

pub returns-clause-number : goal.returns-clause-number
returns-clause-number c = wrong_numbers

pub returns-clause-other : goal.returns-clause-other
returns-clause-other c = no_other

pub returns-clause-place : goal.returns-clause-place
returns-clause-place c = wrong_places
