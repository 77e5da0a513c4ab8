-- A list after a write, and what stands at a place of it.
use Rattle.std.proofs.Common.{◌≡◌, ℕ, zero, suc, ◌<◌, List, [], ◌∷◌, length, map, Some, refl, sym, ap, subst, arith, slice_get, slice_set, slice_index_or}
use Rattle.std.specs.Prelude.{All}
use Rattle.std.proofs.lemmas.Option.{same_Some, get_or_from_slice_get, slice_get_within}

pub get_set_same : {X : Type 0} (xs : List X) (i : ℕ) (old v : X) → slice_get xs i ≡ Some old → slice_get (slice_set xs i v) i ≡ Some v
get_set_same [] i old v e = cc
get_set_same (x ∷ xs) zero old v e = refl
get_set_same (x ∷ xs) (suc i) old v e = get_set_same xs i old v e

pub get_set_other : {X : Type 0} (xs : List X) (i j : ℕ) (v : X) → (i ≡ j → ⊥) → slice_get (slice_set xs i v) j ≡ slice_get xs j
get_set_other [] i j v ne = refl
get_set_other (x ∷ xs) zero zero v ne = absurd (ne refl)
get_set_other (x ∷ xs) zero (suc j) v ne = refl
get_set_other (x ∷ xs) (suc i) zero v ne = refl
get_set_other (x ∷ xs) (suc i) (suc j) v ne = get_set_other xs i j v (λ e. ne (ap suc e))

pub get_map : {X Y : Type 0} (f : X → Y) (xs : List X) (i : ℕ) (x : X) → slice_get xs i ≡ Some x → slice_get (map f xs) i ≡ Some (f x)
get_map f [] i x e = cc
get_map f (y ∷ xs) zero x e = cc
get_map f (y ∷ xs) (suc i) x e = get_map f xs i x e

-- what stood there before it was mapped
pub get_unmap : {X Y : Type 0} (f : X → Y) (xs : List X) (i : ℕ) (y : Y) → slice_get (map f xs) i ≡ Some y → (x : X) × (slice_get xs i ≡ Some x) × (f x ≡ y)
get_unmap f [] i y e = cc
get_unmap f (x ∷ xs) zero y e = (x, refl, cc)
get_unmap f (x ∷ xs) (suc i) y e = get_unmap f xs i y e

pub get_within : {X : Type 0} (xs : List X) (i : ℕ) → i < length xs → (x : X) × (slice_get xs i ≡ Some x)
get_within [] i h = absurd (omega arith)
get_within (x ∷ xs) zero h = (x, refl)
get_within (x ∷ xs) (suc i) h = get_within xs i (omega arith)

-- what holds of each element holds of each after a write, if it holds of what is written
pub after_set : {X : Type 0} (P : ℕ → X → Type 0) (xs : List X) (i : ℕ) (v : X) → ((j : ℕ) (y : X) → slice_get xs j ≡ Some y → P j y) → P i v → (j : ℕ) (y : X) → slice_get (slice_set xs i v) j ≡ Some y → P j y
after_set P [] i v all here j y e = all j y e
after_set P (x ∷ xs) zero v all here zero y e = subst (P 0) (same_Some v y e) here
after_set P (x ∷ xs) zero v all here (suc j) y e = all (suc j) y e
after_set P (x ∷ xs) (suc i) v all here zero y e = all zero y e
after_set P (x ∷ xs) (suc i) v all here (suc j) y e = after_set (λ k. P (suc k)) xs i v (λ k z h. all (suc k) z h) here j y e

-- the same, where what holds of the other elements is known
pub after_set_apart : {X : Type 0} (P : ℕ → X → Type 0) (xs : List X) (i : ℕ) (v : X) → ((j : ℕ) (y : X) → (i ≡ j → ⊥) → slice_get xs j ≡ Some y → P j y) → P i v → (j : ℕ) (y : X) → slice_get (slice_set xs i v) j ≡ Some y → P j y
after_set_apart P [] i v all here j y e = cc
after_set_apart P (x ∷ xs) zero v all here zero y e = subst (P 0) (same_Some v y e) here
after_set_apart P (x ∷ xs) zero v all here (suc j) y e = all (suc j) y (λ c. omega arith) e
after_set_apart P (x ∷ xs) (suc i) v all here zero y e = all zero y (λ c. omega arith) e
after_set_apart P (x ∷ xs) (suc i) v all here (suc j) y e = after_set_apart (λ k. P (suc k)) xs i v (λ k z ne h. all (suc k) z (λ c. ne (omega arith)) h) here j y e

pub get_or_map : {X Y : Type 0} (f : List X → List Y) (qs : List (List X)) (i : ℕ) → f [] ≡ [] → slice_index_or (map f qs) i [] ≡ f (slice_index_or qs i [])
get_or_map f [] i e = sym e
get_or_map f (q ∷ qs) zero e = refl
get_or_map f (q ∷ qs) (suc i) e = get_or_map f qs i e

-- a queue that is not empty is there
pub queue_there : {X : Type 0} (qs : List (List X)) (i : ℕ) (x : X) (rest : List X) → slice_index_or qs i [] ≡ x ∷ rest → slice_get qs i ≡ Some (x ∷ rest)
queue_there [] i x rest e = cc
queue_there (q ∷ qs) zero x rest e = ap Some e
queue_there (q ∷ qs) (suc i) x rest e = queue_there qs i x rest e

pub all_of_queue : {X : Type 0} (P : X → Type 0) (qs : List (List X)) (i : ℕ) → ((q : List X) → slice_get qs i ≡ Some q → All P q) → All P (slice_index_or qs i [])
all_of_queue P [] i h = λ k d lt. absurd (omega arith)
all_of_queue P (q ∷ qs) zero h = h q refl
all_of_queue P (q ∷ qs) (suc i) h = all_of_queue P qs i h

pub all_at : {X : Type 0} (P : X → Type 0) (xs : List X) (i : ℕ) (x : X) → All P xs → slice_get xs i ≡ Some x → P x
all_at P xs i x all e = subst P (get_or_from_slice_get xs i x x e) (all i x (slice_get_within xs i x e))
