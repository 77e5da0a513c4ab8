use Rattle.arch_types.proofs.SoundShallow.{shallow}
use Rattle.arch_types.proofs.laws.shallow_law.Goals as goal

pub returns : goal.returns
returns c = shallow
