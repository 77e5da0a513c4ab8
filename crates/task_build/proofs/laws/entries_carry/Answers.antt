use Rattle.task_build.proofs.laws.entries_carry.Goals as goal
use Rattle.task_build.proofs.Carried.{are_planned, entries_carry}

pub returns-clause-planned : goal.returns-clause-planned
returns-clause-planned c = are_planned

pub returns-clause-carry : goal.returns-clause-carry
returns-clause-carry c = entries_carry
