use Rattle.std.proofs.Common.{refl}
use Rattle.arch_checks.proofs.laws.worked_sizes.Goals as goal

pub returns : goal.returns
returns c = (refl, refl, refl, refl, refl)
