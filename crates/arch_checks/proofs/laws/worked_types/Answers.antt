use Rattle.arch_checks.proofs.WorkedFaults.{worked_literals, worked_places, worked_sums, worked_bits, worked_comparisons, worked_truths, worked_choices, worked_sets, worked_copies, worked_heights, worked_files}
use Rattle.arch_checks.proofs.laws.worked_types.Goals as goal

pub returns-clause-literals : goal.returns-clause-literals
returns-clause-literals c = worked_literals

pub returns-clause-places : goal.returns-clause-places
returns-clause-places c = worked_places

pub returns-clause-sums : goal.returns-clause-sums
returns-clause-sums c = worked_sums

pub returns-clause-bits : goal.returns-clause-bits
returns-clause-bits c = worked_bits

pub returns-clause-comparisons : goal.returns-clause-comparisons
returns-clause-comparisons c = worked_comparisons

pub returns-clause-truths : goal.returns-clause-truths
returns-clause-truths c = worked_truths

pub returns-clause-choices : goal.returns-clause-choices
returns-clause-choices c = worked_choices

pub returns-clause-sets : goal.returns-clause-sets
returns-clause-sets c = worked_sets

pub returns-clause-copies : goal.returns-clause-copies
returns-clause-copies c = worked_copies

pub returns-clause-heights : goal.returns-clause-heights
returns-clause-heights c = worked_heights

pub returns-clause-files : goal.returns-clause-files
returns-clause-files c = worked_files
