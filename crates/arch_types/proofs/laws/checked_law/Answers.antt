use Rattle.arch_types.proofs.Sound.{checked}
use Rattle.arch_types.proofs.laws.checked_law.Goals as goal

pub returns : goal.returns
returns c = checked
