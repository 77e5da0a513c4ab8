-- The words of a generator, and those that a number gives.
use Rattle.std.specs.Prelude.{ℕ}
use Rattle.rand_pcg.specs.Lcg.{Lcg, advance, started, increment_of}
use Rattle.rand_pcg.specs.Pcg.{multiplier_64, pcg32}

-- the generator after so many words
abbrev pub after : ℕ → Lcg → Lcg
after k g = advance 64 multiplier_64 k g

-- its words, counted from 0
abbrev pub words_of : Lcg → ℕ → ℕ
words_of g k = (pcg32 (after k g)).0

-- the generator with the state n and the stream 0, as it is made
abbrev pub generator_of : ℕ → Lcg
generator_of n = started 64 multiplier_64 n (increment_of 64 0)
