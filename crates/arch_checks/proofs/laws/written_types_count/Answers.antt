use Rattle.arch_checks.proofs.Accepted.{written}
use Rattle.arch_checks.proofs.laws.written_types_count.Goals as goal

pub returns : goal.returns
returns c = written
