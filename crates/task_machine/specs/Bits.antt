-- Tasks as bits in 64-bit words.
use Rattle.std.specs.Prelude.{ℕ, ◌/◌, ◌%◌, List, slice_index, Bool, cond}
use Rattle.std.specs.Int.{bit_at, div_ceil}

-- how many words have a bit for each of n tasks
abbrev pub words_for : ℕ → ℕ
words_for n = div_ceil n 64

-- the bit of task t: that in place t modulo 64, from the lowest, of word t / 64; past the last word it is 0
abbrev pub bit : List ℕ → ℕ → ℕ
bit ws t = bit_at (slice_index ws (t / 64)) (t % 64)

abbrev pub as_bit : Bool → ℕ
as_bit b = cond b 1 0
