-- Lists after a write, and sums.
use Rattle.std.proofs.Common.{◌≡◌, ◌≢◌, ℕ, zero, suc, ◌+◌, ◌<◌, List, [], ◌∷◌, length, Some, refl, sym, ap, arith, slice_get, slice_set}
use Rattle.std.specs.Prelude.{sum}
use Rattle.std.proofs.lemmas.List.Sums.{sum_by-cons}
use Rattle.std.proofs.lemmas.Option.{same_Some}

pub set_same : {X : Type 0} (xs : List X) (i : ℕ) (v : X) → i < length xs → slice_get (slice_set xs i v) i ≡ Some v
set_same [] i v h = absurd (omega arith)
set_same (x ∷ xs) zero v h = refl
set_same (x ∷ xs) (suc i) v h = set_same xs i v (omega arith)

pub set_other : {X : Type 0} (xs : List X) (i j : ℕ) (v : X) → i ≢ j → slice_get (slice_set xs i v) j ≡ slice_get xs j
set_other [] i j v ne = refl
set_other (x ∷ xs) zero zero v ne = absurd (ne refl)
set_other (x ∷ xs) zero (suc j) v ne = refl
set_other (x ∷ xs) (suc i) zero v ne = refl
set_other (x ∷ xs) (suc i) (suc j) v ne = set_other xs i j v (λ e. ne (ap suc e))

-- of two writes at one place the latter counts
pub set_twice : {X : Type 0} (xs : List X) (i : ℕ) (v w : X) → slice_set (slice_set xs i v) i w ≡ slice_set xs i w
set_twice [] i v w = refl
set_twice (x ∷ xs) zero v w = refl
set_twice (x ∷ xs) (suc i) v w = ap (λ l. x ∷ l) (set_twice xs i v w)

-- what stands there is written
pub set_as_was : {X : Type 0} (xs : List X) (i : ℕ) (v : X) → slice_get xs i ≡ Some v → slice_set xs i v ≡ xs
set_as_was [] i v e = refl
set_as_was (x ∷ xs) zero v e = ap (λ y. y ∷ xs) (sym (same_Some x v e))
set_as_was (x ∷ xs) (suc i) v e = ap (λ l. x ∷ l) (set_as_was xs i v e)

pub cons_sum : (n : ℕ) (ns : List ℕ) → sum (n ∷ ns) ≡ n + sum ns
cons_sum n ns = sum_by-cons (λ m. m) n ns
