-- Inputs that were fetched whole.
use Rattle.std.proofs.Common.{◌≡◌, ◌<◌, ◌≤◌, ◌+◌, ℕ, List, ◌⊎◌, inl, inr, length, Option, refl, arith}
use Rattle.tower_io.specs.Faults.{Rose}
use Rattle.event_record.specs.Format.{Format, Offends, a_long_text, a_wrong_line, too_many, IsFirst, Precedes, byte_limit}
use Rattle.tower_top.specs.Calls.{Held, IsSame, FailsAt, shelf_change}

module _ {S : Type 0} (held : S → Held) (blamed : S → List ℕ) (faults : S → ℕ) (old new : S) where
  pub shelf_same : held new ≡ held old → blamed new ≡ blamed old → faults new ≡ faults old → IsSame (shelf_change held blamed faults old new)
  shelf_same h b f = λ i. record { held = h i; blamed = b i; faults = f i }

  pub fails_at : (name : List ℕ) → blamed new ≡ name → Rose (faults old) (faults new) → faults old ≤ faults new → held new ≡ held old → FailsAt (shelf_change held blamed faults old new) name
  fails_at name b r n h = record { blames = b; rose = r; never_falls = n; holds = h }

-- a text that is too long offends before all else
long_before : {A K : Type 0} (f : Format A K) (text : List ℕ) (m : ℕ) (j : K) → Offends f text m j → ((m ≡ 0) × (j ≡ f.long)) ⊎ Precedes f.rank 0 f.long m j
long_before f text m j (a_long_text k) = inl (refl, refl)
long_before f text m j (a_wrong_line is wrong) = let n = is.number in inr (inl (omega arith))
long_before f text m j (too_many is makes many) = let n = is.number in inr (inl (omega arith))

pub long_is_first : {A K : Type 0} (f : Format A K) (text : List ℕ) → byte_limit < length text → IsFirst f text 0 f.long
long_is_first f text h = record { offends = a_long_text h; precedes = long_before f text }
