use Rattle.lock_reduction.proofs.laws.counter_is_sound.Goals as goal
use Rattle.lock_reduction.proofs.Counter.{sound}

pub returns : goal.returns
returns c = sound
