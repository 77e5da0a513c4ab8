use Rattle.task_listing.proofs.Verdicts.{fault_is_first, none_is_faultless}
use Rattle.task_listing.proofs.laws.fault_law.Goals as goal

pub returns-clause-fault : goal.returns-clause-fault
returns-clause-fault c = fault_is_first

pub returns-clause-none : goal.returns-clause-none
returns-clause-none c = none_is_faultless
