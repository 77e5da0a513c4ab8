-- Lists, read and written by place.
use Rattle.std.proofs.Common.{◌≡◌, ℕ, zero, suc, ◌<◌, ◌≤◌, List, [], ◌∷◌, ◌++◌, length, map, take, drop, Some, None, slice_get, slice_index_or, slice_set, refl, ap, sym, ◌∙◌, arith, reverse, ◌-◌, inl, inr, ◌⊎◌, length-drop}
use Rattle.std.proofs.lemmas.List.{reverse-append, take-append-drop, length-reverse, drop_all}
use Rattle.std.proofs.lemmas.Bool.{cases_lt}
use Rattle.std.proofs.Math.Seq.{drop-append_seam}
use Rattle.std.specs.Option.{option_map}

module _ {X : Type 0} where
  -- what `slice_get` says of a read with a default
  pub get_none : (xs : List X) (i : ℕ) (d : X) → slice_get xs i ≡ None → slice_index_or xs i d ≡ d
  get_none [] i d e = refl
  get_none (x ∷ xs) zero d e = cc
  get_none (x ∷ xs) (suc i) d e = get_none xs i d e

  pub get_some : (xs : List X) (i : ℕ) (d x : X) → slice_get xs i ≡ Some x → slice_index_or xs i d ≡ x
  get_some [] i d x e = cc
  get_some (y ∷ xs) zero d x e = cc
  get_some (y ∷ xs) (suc i) d x e = get_some xs i d x e

  pub get_within : (xs : List X) (i : ℕ) (x : X) → slice_get xs i ≡ Some x → i < length xs
  get_within [] i x e = cc
  get_within (y ∷ xs) zero x e = omega arith
  get_within (y ∷ xs) (suc i) x e = let h = get_within xs i x e in omega arith

  pub get_past : (xs : List X) (i : ℕ) → slice_get xs i ≡ None → length xs ≤ i
  get_past [] i e = omega arith
  get_past (y ∷ xs) zero e = cc
  get_past (y ∷ xs) (suc i) e = let h = get_past xs i e in omega arith

  pub get_beyond : (xs : List X) (i : ℕ) → length xs ≤ i → slice_get xs i ≡ None
  get_beyond [] i h = refl
  get_beyond (y ∷ xs) zero h = absurd (omega arith)
  get_beyond (y ∷ xs) (suc i) h = get_beyond xs i (omega arith)

  pub get_at : (xs : List X) (i : ℕ) (d : X) → i < length xs → slice_get xs i ≡ Some (slice_index_or xs i d)
  get_at [] i d h = absurd (omega arith)
  get_at (y ∷ xs) zero d h = refl
  get_at (y ∷ xs) (suc i) d h = get_at xs i d (omega arith)

  pub past : (xs : List X) (i : ℕ) (d : X) → length xs ≤ i → slice_index_or xs i d ≡ d
  past [] i d h = refl
  past (y ∷ xs) zero d h = absurd (omega arith)
  past (y ∷ xs) (suc i) d h = past xs i d (omega arith)

  -- a write of what stands there changes nothing
  pub set_same : (xs : List X) (i : ℕ) (x : X) → slice_get xs i ≡ Some x → slice_set xs i x ≡ xs
  set_same [] i x e = refl
  set_same (y ∷ xs) zero x e = cc
  set_same (y ∷ xs) (suc i) x e = ap (λ r. y ∷ r) (set_same xs i x e)

  -- a write past the end changes nothing
  pub set_past : (xs : List X) (i : ℕ) (x : X) → length xs ≤ i → slice_set xs i x ≡ xs
  set_past [] i x h = refl
  set_past (y ∷ xs) zero x h = absurd (omega arith)
  set_past (y ∷ xs) (suc i) x h = ap (λ r. y ∷ r) (set_past xs i x (omega arith))

  -- the rest of a list at a place
  pub drop_at : (xs : List X) (i : ℕ) (x : X) → slice_get xs i ≡ Some x → drop i xs ≡ x ∷ drop (suc i) xs
  drop_at [] i x e = cc
  drop_at (y ∷ xs) zero x e = cc
  drop_at (y ∷ xs) (suc i) x e = drop_at xs i x e

pub get_map : {X Y : Type 0} (f : X → Y) (xs : List X) (i : ℕ) → slice_get (map f xs) i ≡ option_map f (slice_get xs i)
get_map f [] i = refl
get_map f (x ∷ xs) zero = refl
get_map f (x ∷ xs) (suc i) = get_map f xs i

pub set_map : {X Y : Type 0} (f : X → Y) (xs : List X) (i : ℕ) (x : X) → slice_set (map f xs) i (f x) ≡ map f (slice_set xs i x)
set_map f [] i x = refl
set_map f (y ∷ xs) zero x = refl
set_map f (y ∷ xs) (suc i) x = ap (λ r. f y ∷ r) (set_map f xs i x)

module _ {X : Type 0} where
  drop_front : (xs ys : List X) (n : ℕ) → length xs ≡ n → drop n (xs ++ ys) ≡ ys
  drop_front xs ys n e = rw (← e) (drop-append_seam xs ys)

  drop_of_reverse : (n : ℕ) (xs : List X) → n ≤ length xs → drop n (reverse xs) ≡ reverse (take (length xs - n) xs)
  drop_of_reverse n xs h =
      let k = length xs - n in
      let e : reverse xs ≡ reverse (drop k xs) ++ reverse (take k xs) =
      ap reverse (sym (take-append-drop k xs)) ∙ reverse-append (take k xs) (drop k xs) in
      let l : length (reverse (drop k xs)) ≡ n = rw (length-reverse, length-drop) (omega arith) in
      ap (drop n) e ∙ drop_front (reverse (drop k xs)) (reverse (take k xs)) n l

  -- a list that is kept backwards, with n taken from its end
  pub drop_reverse : (n : ℕ) (xs : List X) → drop n (reverse xs) ≡ reverse (take (length xs - n) xs)
  drop_reverse n xs =
      elim (cases_lt (length xs) n) as (λ _. drop n (reverse xs) ≡ reverse (take (length xs - n) xs)) [
        | inl h ↦
            let e : length xs - n ≡ 0 = omega arith in
            let l : length (reverse xs) ≤ n = rw length-reverse (omega arith) in
            drop_all n (reverse xs) l ∙ sym (ap (λ k. reverse (take k xs)) e)
        | inr h ↦ drop_of_reverse n xs h
      ]

-- an element of a list with one more at its end
module _ {X : Type 0} where
  pub get_push : (xs : List X) (v : X) (i : ℕ) (q : X) → slice_get (xs ++ v ∷ []) i ≡ Some q → (slice_get xs i ≡ Some q) ⊎ ((i ≡ length xs) × (v ≡ q))
  get_push [] v zero q e = inr (refl, cc)
  get_push [] v (suc i) q e = cc
  get_push (x ∷ xs) v zero q e = inl e
  get_push (x ∷ xs) v (suc i) q e = elim (get_push xs v i q e) [ inl f ↦ inl f | inr f ↦ inr (ap suc f.0, f.1) ]
