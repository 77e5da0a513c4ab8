-- The text that a shelf holds, after a fetch.
use Rattle.std.proofs.Common.{◌≡◌, ◌<◌, ◌+◌, ℕ, List, ◌⊎◌, inl, inr, length, take, Option, Some, None, refl, sym, ap, arith, length-take}
use Rattle.std.specs.Prelude.{IfSome}
use Rattle.tower_reader.specs.declared.fault.ReadFault.{ReadFault}
use Rattle.tower_reader.specs.declared.fault.ReadFault.TheVariants as fault
use Rattle.tower_reader.specs.Faults.{TextOffends, Precedes, IsFault}

pub told : (o : Option (List ℕ)) (xs : List ℕ) → IfSome o (λ t. xs ≡ t) → IfSome o (λ t. t ≡ xs)
told None xs h = h
told (Some t) xs h = sym h

-- more came than was asked for, so the text is longer
pub long : (o : Option (List ℕ)) (xs : List ℕ) (most : ℕ) → IfSome o (λ t. xs ≡ take (most + 1) t) → length xs ≡ most + 1
    → (x : List ℕ) × IfSome o (λ t. t ≡ x) × (most < length x)
long None xs most h e = (xs, tt, omega arith)
long (Some t) xs most h e = (t, refl, omega (arith, ap length h, length-take (most + 1) t))

-- before all else that may be wrong
long_first : (text : List ℕ) (g : ReadFault) → TextOffends text g → (g ≡ fault.Long 1048576) ⊎ Precedes (fault.Long 1048576) g
long_first text (fault.Long limit) o = inl (ap fault.Long o.0)
long_first text (fault.Byte at) o = inr (inl (omega arith))
long_first text (fault.Unopened at) o = inr (inl (omega arith))
long_first text (fault.Nest at) o = inr (inl (omega arith))
long_first text (fault.Unclosed at) o = inr (inl (omega arith))
long_first text fault.Empty o = inr (inl (omega arith))
long_first text (fault.Form at) o = inr (inl (omega arith))
long_first text (fault.Number at) o = inr (inl (omega arith))
long_first text (fault.Length at) o = inr (inl (omega arith))
long_first text fault.NoMemory o = absurd o

pub long_fault : (text : List ℕ) → 1048576 < length text → IsFault text (fault.Long 1048576)
long_fault text h = record { offends = (refl, h); precedes = long_first text }
