-- An atomic state, with the number of ticks that have arrived.
use Rattle.std.specs.Prelude.{ℕ}
use Rattle.tower_meaning.specs.Atomic.{Atomic}

pub record Kept : Type 0 where
  pub state : Atomic
  pub ticks : ℕ
