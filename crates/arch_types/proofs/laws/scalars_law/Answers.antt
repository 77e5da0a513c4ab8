use Rattle.arch_types.proofs.Sound.{proper_scalars}
use Rattle.arch_types.proofs.laws.scalars_law.Goals as goal

pub returns : goal.returns
returns c = proper_scalars
