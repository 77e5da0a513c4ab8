-- What holds of each element of a list, by recursion, and of all elements.
use Rattle.std.proofs.Common.{◌≡◌, ℕ, zero, suc, ◌<◌, List, [], ◌∷◌, ◌++◌, length, map, All, Contains, Some, refl, subst, arith, slice_get, slice_index_or}
use Rattle.std.proofs.lemmas.List.Elements.{All-cons, All-head, All-tail, Contains-append_right}
use Rattle.std.proofs.lemmas.Option.{get_or_from_slice_get, slice_get_within}

abbrev pub AllOf : {X : Type 0} → (X → Type 0) → List X → Type 0
AllOf P [] = Unit {0}
AllOf P (x ∷ xs) = P x × AllOf P xs

module _ {X : Type 0} (P : X → Type 0) where
  pub all_both : (xs ys : List X) → AllOf P xs → AllOf P ys → AllOf P (xs ++ ys)
  all_both [] ys h k = k
  all_both (x ∷ xs) ys h k = (h.0, all_both xs ys h.1 k)

  pub all_left : (xs ys : List X) → AllOf P (xs ++ ys) → AllOf P xs
  all_left [] ys h = tt
  all_left (x ∷ xs) ys h = (h.0, all_left xs ys h.1)

  pub all_right : (xs ys : List X) → AllOf P (xs ++ ys) → AllOf P ys
  all_right [] ys h = h
  all_right (x ∷ xs) ys h = all_right xs ys h.1

  pub all_more : (Q : X → Type 0) → ((x : X) → P x → Q x) → (xs : List X) → AllOf P xs → AllOf Q xs
  all_more Q f [] h = tt
  all_more Q f (x ∷ xs) h = (f x h.0, all_more Q f xs h.1)

  pub all_contained : (xs : List X) → ((x : X) → Contains xs x → P x) → AllOf P xs
  all_contained [] h = tt
  all_contained (x ∷ xs) h = (h x (0, omega arith, refl), all_contained xs (λ y k. h y (Contains-append_right (x ∷ []) xs y k)))

  pub each_element : (xs : List X) → AllOf P xs → All P xs
  each_element [] h = λ k d l. absurd (omega (arith, l))
  each_element (x ∷ xs) h = All-cons P x xs h.0 (each_element xs h.1)

  pub each_of : (xs : List X) → All P xs → AllOf P xs
  each_of [] every = tt
  each_of (x ∷ xs) every = (All-head P x xs every, each_of xs (All-tail P x xs every))

  pub all_at : (xs : List X) (i : ℕ) (x : X) → All P xs → slice_get xs i ≡ Some x → P x
  all_at xs i x every e = subst P (get_or_from_slice_get xs i x x e) (every i x (slice_get_within xs i x e))

-- what holds of each element in two ways
pub zipped : {X : Type 0} (P Q R : X → Type 0) → ((x : X) → P x → Q x → R x) → (xs : List X) → AllOf P xs → AllOf Q xs → AllOf R xs
zipped P Q R f [] ps qs = tt
zipped P Q R f (x ∷ xs) ps qs = (f x ps.0 qs.0, zipped P Q R f xs ps.1 qs.1)

-- at a number, or else of what stands for it
pub looked : {X Y : Type 0} (P : Y → Type 0) (f : X → Y) (xs : List X) (i : ℕ) (d : Y) → AllOf (λ x. P (f x)) xs → P d → P (slice_index_or (map f xs) i d)
looked P f [] i d every none = none
looked P f (x ∷ xs) zero d every none = every.0
looked P f (x ∷ xs) (suc i) d every none = looked P f xs i d every.1 none

pub get_within : {X : Type 0} (xs : List X) (i : ℕ) → i < length xs → (x : X) × (slice_get xs i ≡ Some x)
get_within [] i h = absurd (omega arith)
get_within (x ∷ xs) zero h = (x, refl)
get_within (x ∷ xs) (suc i) h = get_within xs i (omega arith)
