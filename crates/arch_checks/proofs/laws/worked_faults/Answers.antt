use Rattle.arch_checks.proofs.WorkedFaults.{worked_lengths, worked_readings, worked_names, worked_numbers}
use Rattle.arch_checks.proofs.laws.worked_faults.Goals as goal

pub returns-clause-lengths : goal.returns-clause-lengths
returns-clause-lengths c = worked_lengths

pub returns-clause-readings : goal.returns-clause-readings
returns-clause-readings c = worked_readings

pub returns-clause-names : goal.returns-clause-names
returns-clause-names c = worked_names

pub returns-clause-numbers : goal.returns-clause-numbers
returns-clause-numbers c = worked_numbers
