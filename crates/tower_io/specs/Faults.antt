-- Counts of calls and of faults: numbers below 2 ^ 64 that never fall.
use Rattle.std.specs.Prelude.{◌≡◌, ℕ, ◌+◌, ◌<◌, ◌⊎◌, min}

-- the count grew, or stands at its last value
abbrev pub Rose : ℕ → ℕ → Type 0
Rose old new = (old < new) ⊎ (new ≡ 18446744073709551615)

-- the count after one more, which stays at its last value
abbrev pub one_more : ℕ → ℕ
one_more n = min (n + 1) 18446744073709551615
