use Rattle.arch_checks.proofs.Verdict.{one_verdict, memory_is_none}
use Rattle.arch_checks.proofs.laws.one_verdict.Goals as goal

pub returns-clause-one : goal.returns-clause-one
returns-clause-one c = one_verdict

pub returns-clause-memory : goal.returns-clause-memory
returns-clause-memory c = memory_is_none
