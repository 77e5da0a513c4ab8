-- The instructions that a window may have to carry.
use Rattle.std.specs.Prelude.{ℕ, ◌+◌, ◌*◌, ◌≤◌, Bool, true, false, ◌&&◌, ◌||◌, nat_le, cond}
use Rattle.stretch_law.specs.Counts.{sum_to, greatest_to, any_to, up}
use Rattle.stretch_law.specs.Machine.{Kind, Init, Period, Signal, Tasks}

abbrev pub is_init : Kind → Bool
is_init Init = true
is_init (Period ms) = false
is_init Signal = false

-- the tasks of p: all init tasks, and all tasks with a priority of at least p
abbrev pub urgent : Tasks → ℕ → ℕ → Bool
urgent t p x = is_init (t.kind x) || nat_le p (t.priority x)

-- can task x hold a monitor whose ceiling is at least p
abbrev pub rises : Tasks → ℕ → ℕ → Bool
rises t p x = any_to t.monitors (λ m. t.touches x m && nat_le p (t.ceiling m))

abbrev pub block_of : Tasks → ℕ → ℕ → ℕ
block_of t p x = cond (urgent t p x) 0 (cond (rises t p x) (t.cost x) 0)

-- the greatest cost of a lower task that can hold such a monitor
abbrev pub block : Tasks → ℕ → ℕ
block t p = greatest_to t.count (block_of t p)

-- how many messages w intervals can bring
abbrev pub most : Kind → ℕ → ℕ → ℕ
most Init gap w = 1
most (Period ms) gap w = up w ms
most Signal gap w = up w gap

abbrev pub share : Tasks → ℕ → ℕ → ℕ → ℕ → ℕ
share t gap p w x = cond (urgent t p x) (t.cost x * most (t.kind x) gap w) 0

abbrev pub demand : Tasks → ℕ → ℕ → ℕ → ℕ
demand t gap p w = block t p + sum_to t.count (share t gap p w)

-- w is a window of a period with the priority p and the ms T, at the rate of k instructions for each tick
pub record IsWindow (t : Tasks) (k gap p T w : ℕ) : Type 0 where
  pub least : 1 ≤ w
  pub most : w ≤ T
  pub holds : demand t gap p w ≤ k * w
