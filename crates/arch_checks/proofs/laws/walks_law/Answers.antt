use Rattle.arch_checks.proofs.Facts.{walks_short}
use Rattle.arch_checks.proofs.laws.walks_law.Goals as goal

pub returns : goal.returns
returns c = walks_short
