use Rattle.arch_types.proofs.SoundOnce.{determined}
use Rattle.arch_types.proofs.laws.trees_are_determined.Goals as goal

pub returns : goal.returns
returns c = determined
