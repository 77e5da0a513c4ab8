-- Laws of a count of faults.
use Rattle.std.proofs.Common.{◌≡◌, ℕ, ◌<◌, ◌≤◌, ◌^◌, arith, inl, inr}
use Rattle.tower_io.specs.Faults.{Rose}

-- a rise in a later part is a rise in the whole
pub Rose_later : (old mid new : ℕ) → old ≤ mid → Rose mid new → Rose old new
Rose_later old mid new h (inl grew) = inl (omega arith)
Rose_later old mid new h (inr last) = inr last

-- a rise in an earlier part is a rise in the whole
pub Rose_earlier : (old mid new : ℕ) → Rose old mid → mid ≤ new → new < 2 ^ 64 → Rose old new
Rose_earlier old mid new (inl grew) h fits = inl (omega arith)
Rose_earlier old mid new (inr last) h fits = inr (omega arith)

-- a count that stayed did not rise, except at its last value
pub Rose_stayed : (n : ℕ) → Rose n n → n ≡ 18446744073709551615
Rose_stayed n (inl grew) = absurd (omega arith)
Rose_stayed n (inr last) = last
