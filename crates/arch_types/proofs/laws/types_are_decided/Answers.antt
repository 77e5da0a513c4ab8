use Rattle.arch_types.proofs.Verdict.{decided, no_memory}
use Rattle.arch_types.proofs.laws.types_are_decided.Goals as goal

pub returns-clause-decided : goal.returns-clause-decided
returns-clause-decided c = decided

pub returns-clause-memory : goal.returns-clause-memory
returns-clause-memory c = no_memory
