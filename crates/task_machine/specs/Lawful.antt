-- That the rules for turns keep the law.
use Rattle.std.proofs.Common.{◌≡◌, ◌==◌, ℕ, zero, suc, ◌+◌, ◌<◌, ◌%◌, List, [], ◌∷◌, map, Bool, true, false, Option, Some, length, slice_get, refl, ap, sym, ◌∙◌, arith, inl, inr, ◌⊎◌, cond, slice_index_or, subst}
use Rattle.std.specs.Prelude.{slice_index, filter, fold, max}
use Rattle.task_code.specs.Policy.{places_from, most_urgent, at_turn, greatest, fixed_names, any_names}
use Rattle.task_machine.specs.Policy.{IsLawful}
use Rattle.std.proofs.lemmas.Bool.{cases_lt}
use Rattle.std.proofs.lemmas.Bool.Decides.{nat_tests}
use Rattle.std.proofs.Math.Nat.{mod-lt}

get_at : {X : Type 0} (xs : List X) (i : ℕ) (d : X) → i < length xs → slice_get xs i ≡ Some (slice_index_or xs i d)
get_at [] i d h = absurd (omega arith)
get_at (y ∷ xs) zero d h = refl
get_at (y ∷ xs) (suc i) d h = get_at xs i d (omega arith)

-- each place of the list of ready tasks is one
places_ready : (n : ℕ) (bs : List Bool) (i x : ℕ) → slice_get (places_from n bs) i ≡ Some x → (j : ℕ) × (x ≡ n + j) × (slice_get bs j ≡ Some true)
places_ready n [] i x e = cc
places_ready n (true ∷ bs) zero x e = let h : n ≡ x = cc in (0, omega (arith, h), refl)
places_ready n (true ∷ bs) (suc i) x e =
    let r = places_ready (suc n) bs i x e in
    let h : x ≡ suc n + r.0 = r.1 in
    (suc r.0, omega (arith, h), r.2)
places_ready n (false ∷ bs) i x e =
    let r = places_ready (suc n) bs i x e in
    let h : x ≡ suc n + r.0 = r.1 in
    (suc r.0, omega (arith, h), r.2)

-- and each that is ready is among them
ready_place : (n : ℕ) (bs : List Bool) (j : ℕ) → slice_get bs j ≡ Some true → 0 < length (places_from n bs)
ready_place n [] j e = cc
ready_place n (true ∷ bs) j e = omega arith
ready_place n (false ∷ bs) zero e = cc
ready_place n (false ∷ bs) (suc j) e = ready_place (suc n) bs j e

Among : List ℕ → ℕ → Type 0
Among xs x = (j : ℕ) × (slice_get xs j ≡ Some x)

later : (xs : List ℕ) (y x : ℕ) → Among xs x → Among (y ∷ xs) x
unfolding Among
later xs y x a = (suc a.0, a.1)

first_or_later : (ys xs : List ℕ) (z i x : ℕ) → ((i : ℕ) → slice_get ys i ≡ Some x → Among xs x) → slice_get (z ∷ ys) i ≡ Some x → Among (z ∷ xs) x
unfolding Among
first_or_later ys xs z zero x rest e = (0, e)
first_or_later ys xs z (suc i) x rest e = later xs z x (rest i e)

-- what a filter leaves was there
filter_get : (p : ℕ → Bool) (xs : List ℕ) (i x : ℕ) → slice_get (filter p xs) i ≡ Some x → Among xs x
filter_get p [] i x e = cc
filter_get p (y ∷ xs) i x e =
    let rest : (i : ℕ) → slice_get (filter p xs) i ≡ Some x → Among xs x = λ i. filter_get p xs i x in
    elim (p y) as (λ b. slice_get (cond b (y ∷ filter p xs) (filter p xs)) i ≡ Some x → Among (y ∷ xs) x)
    [ true ↦ first_or_later (filter p xs) xs y i x rest | false ↦ λ f. later xs y x (rest i f) ] e

filter_has : (p : ℕ → Bool) (xs : List ℕ) (i x : ℕ) → slice_get xs i ≡ Some x → p x ≡ true → 0 < length (filter p xs)
filter_has p [] i x e t = cc
filter_has p (y ∷ xs) zero x e t =
    let h : p y ≡ true = let f : y ≡ x = cc in ap p f ∙ t in
    rw h (omega arith)
filter_has p (y ∷ xs) (suc i) x e t =
    let h = filter_has p xs i x e t in
    elim (p y) as (λ b. 0 < length (cond b (y ∷ filter p xs) (filter p xs))) [ true ↦ omega arith | false ↦ h ]

-- the greatest of some numbers is one of them
greatest_is : (f : ℕ → ℕ) (xs : List ℕ) (a : ℕ) → (fold max a (map f xs) ≡ a) ⊎ ((i x : ℕ) × (slice_get xs i ≡ Some x) × (f x ≡ fold max a (map f xs)))
greatest_is f [] a = inl refl
greatest_is f (x ∷ xs) a =
    elim (greatest_is f xs (max a (f x))) [
      | inl e ↦ elim (cases_lt a (f x)) [
        | inl l ↦ inr (0, x, refl, let m : max a (f x) ≡ f x = omega arith in sym m ∙ sym e)
        | inr l ↦ inl (let m : max a (f x) ≡ a = omega arith in e ∙ m)
      ]
      | inr r ↦ inr (suc r.0, r.1, r.2, r.3)
    ]

same : (m n : ℕ) → m ≡ n → (m == n) ≡ true
same m n e = grind (arith, nat_tests)

urgent_some : (ps : List ℕ) (y : ℕ) (xs : List ℕ) → 0 < length (most_urgent ps (y ∷ xs))
urgent_some ps y xs =
    let f : ℕ → ℕ = slice_index ps in
    let top = greatest (map f (y ∷ xs)) in
    elim (greatest_is f xs (max 0 (f y))) [
      | inl e ↦
          let m : max 0 (f y) ≡ f y = omega arith in
          filter_has (λ x. f x == top) (y ∷ xs) 0 y refl (same (f y) top (sym (e ∙ m)))
      | inr r ↦ filter_has (λ x. f x == top) (y ∷ xs) (suc r.0) r.1 r.2 (same (f r.1) top r.3)
    ]

turn_is : (k y : ℕ) (ys : List ℕ) → (i x : ℕ) × (at_turn k (y ∷ ys) ≡ Some x) × (slice_get (y ∷ ys) i ≡ Some x)
turn_is k y ys =
    let i = k % length (y ∷ ys) in
    let l : i < length (y ∷ ys) = mod-lt k (omega arith) in
    let e = get_at (y ∷ ys) i 0 l in
    (i, slice_index_or (y ∷ ys) i 0, e, e)

-- a task of a list of ready tasks, at a turn
lawful_turn : (ready : List Bool) (k : ℕ) (ys : List ℕ) → ((i x : ℕ) → slice_get ys i ≡ Some x → slice_get ready x ≡ Some true)
    → ((x : ℕ) → slice_get ready x ≡ Some true → 0 < length ys) → IsLawful ready (at_turn k ys)
lawful_turn ready k [] each some = λ x h. absurd (let n = some x h in omega arith)
lawful_turn ready k (y ∷ ys) each some =
    let r = turn_is k y ys in
    let P : Option ℕ → Type 0 = IsLawful ready in
    subst P (sym r.2) (each r.0 r.1 r.3)

place_is_ready : (ready : List Bool) (i x : ℕ) → slice_get (places_from 0 ready) i ≡ Some x → slice_get ready x ≡ Some true
place_is_ready ready i x e =
    let r = places_ready 0 ready i x e in
    let h : r.0 ≡ x = let g = r.1 in omega (arith, g) in
    ap (slice_get ready) (sym h) ∙ r.2

pub any_is_lawful : (ready : List Bool) (holds : List (Option ℕ)) (k : ℕ) → IsLawful ready (any_names ready holds k)
any_is_lawful ready holds k = lawful_turn ready k (places_from 0 ready) (place_is_ready ready) (ready_place 0 ready)

some_urgent : (ps xs : List ℕ) → 0 < length xs → 0 < length (most_urgent ps xs)
some_urgent ps [] h = absurd (omega arith)
some_urgent ps (y ∷ xs) h = urgent_some ps y xs

pub fixed_is_lawful : (ps : List ℕ) (ready : List Bool) (holds : List (Option ℕ)) (k : ℕ) → IsLawful ready (fixed_names ps ready holds k)
unfolding Among
fixed_is_lawful ps ready holds k =
    let xs = places_from 0 ready in
    lawful_turn ready k (most_urgent ps xs)
    (λ i x e. let r = filter_get (λ x. slice_index ps x == greatest (map (slice_index ps) xs)) xs i x e in place_is_ready ready r.0 x r.1)
    (λ x h. some_urgent ps xs (ready_place 0 ready x h))
