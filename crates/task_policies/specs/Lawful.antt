-- That the rules keep the law: a named task is ready, and one is named where one is ready.
use Rattle.std.proofs.Common.{◌≡◌, ◌==◌, ◌⊎◌, inl, inr, ℕ, zero, suc, ◌+◌, ◌<◌, ◌≤◌, ◌%◌, List, [], ◌∷◌, map, take, Bool, true, false, cond, Option, Some, length, slice_get, slice_index, refl, ap, sym, ◌∙◌, arith, subst}
use Rattle.std.specs.Prelude.{filter, fold, max, nat_le}
use Rattle.std.specs.List.{list_any}
use Rattle.std.proofs.lemmas.Bool.{cases_Bool, cases_lt, or_cases, eq-eqb, false≢true}
use Rattle.std.proofs.lemmas.Option.{same_Some}
use Rattle.std.proofs.Math.Nat.{mod-lt}
use Rattle.task_code.specs.Policy.{places_from, at_turn, greatest}
use Rattle.task_code.specs.Ceiling.{active_priority, is_holder, greatest_by, preferred, foremost, ceiling_names}
use Rattle.task_code.specs.Cores.{put_before, by_urgency, on_cores, cores_names}
use Rattle.task_machine.specs.Policy.{IsLawful}

abbrev In : ℕ → List ℕ → Type 0
In x [] = ⊥
In x (y ∷ ys) = (x ≡ y) ⊎ In x ys

abbrev SomeIn : List ℕ → Type 0
SomeIn xs = (x : ℕ) × In x xs

-- ---- the places of true

place_is_true : (n : ℕ) (bs : List Bool) (x : ℕ) → In x (places_from n bs) → (j : ℕ) × (x ≡ n + j) × (slice_get bs j ≡ Some true)
place_is_true n [] x i = absurd i
place_is_true n (true ∷ bs) x (inl e) = (0, omega (arith, e), refl)
place_is_true n (true ∷ bs) x (inr i) =
    let r = place_is_true (suc n) bs x i in
    let h : x ≡ suc n + r.0 = r.1 in
    (suc r.0, omega (arith, h), r.2)
place_is_true n (false ∷ bs) x i =
    let r = place_is_true (suc n) bs x i in
    let h : x ≡ suc n + r.0 = r.1 in
    (suc r.0, omega (arith, h), r.2)

true_is_a_place : (n : ℕ) (bs : List Bool) (j : ℕ) → slice_get bs j ≡ Some true → SomeIn (places_from n bs)
true_is_a_place n [] j e = cc
true_is_a_place n (true ∷ bs) j e = (n, inl refl)
true_is_a_place n (false ∷ bs) zero e = cc
true_is_a_place n (false ∷ bs) (suc j) e = true_is_a_place (suc n) bs j e

-- a ready task is among the given ones
pub ready_given : (ready : List Bool) (x : ℕ) → slice_get ready x ≡ Some true → 0 < length (places_from 0 ready)
ready_given ready x e = some_long (places_from 0 ready) (true_is_a_place 0 ready x e)
  where
    some_long : (xs : List ℕ) → SomeIn xs → 0 < length xs
    some_long [] s = absurd s.1
    some_long (y ∷ xs) s = omega arith

is_ready_there : (ready : List Bool) (x : ℕ) → In x (places_from 0 ready) → slice_get ready x ≡ Some true
is_ready_there ready x i =
    let r = place_is_true 0 ready x i in
    let h : r.0 ≡ x = let g = r.1 in omega (arith, g) in
    ap (slice_get ready) (sym h) ∙ r.2

-- ---- one of some tasks, at a turn

get_in : (xs : List ℕ) (i : ℕ) → i < length xs → (x : ℕ) × (slice_get xs i ≡ Some x) × In x xs
get_in [] i l = absurd (omega (arith, l))
get_in (y ∷ xs) zero l = (y, refl, inl refl)
get_in (y ∷ xs) (suc i) l = let r = get_in xs i (omega (arith, l)) in (r.0, r.1, inr r.2)

lawful_turn : (ready : List Bool) (k : ℕ) (ys : List ℕ) → ((x : ℕ) → In x ys → In x (places_from 0 ready)) → (SomeIn (places_from 0 ready) → SomeIn ys) → IsLawful ready (at_turn k ys)
lawful_turn ready k [] each some = λ x h. (some (true_is_a_place 0 ready x h)).1
lawful_turn ready k (y ∷ ys) each some =
    let r = get_in (y ∷ ys) (k % length (y ∷ ys)) (mod-lt k (omega arith)) in
    subst (IsLawful ready) (sym r.1) (is_ready_there ready r.0 (each r.0 r.2))

-- ---- filters

filter_has : (p : ℕ → Bool) (x : ℕ) (xs : List ℕ) → In x (filter p xs) → In x xs
filter_has p x [] h = absurd h
filter_has p x (y ∷ xs) h =
    elim (p y) as (λ b. In x (cond b (y ∷ filter p xs) (filter p xs)) → In x (y ∷ xs))
    [ true ↦ λ i. elim i [ inl e ↦ inl e | inr more ↦ inr (filter_has p x xs more) ] | false ↦ λ i. inr (filter_has p x xs i) ] h

filter_some : (p : ℕ → Bool) (x : ℕ) (xs : List ℕ) → In x xs → p x ≡ true → SomeIn (filter p xs)
filter_some p x [] h e = absurd h
filter_some p x (y ∷ xs) (inl is) e =
    let t : p y ≡ true = ap p (sym is) ∙ e in
    subst (λ b. SomeIn (cond b (y ∷ filter p xs) (filter p xs))) (sym t) (y, inl refl)
filter_some p x (y ∷ xs) (inr h) e =
    let r = filter_some p x xs h e in
    elim (p y) as (λ b. SomeIn (cond b (y ∷ filter p xs) (filter p xs))) [ true ↦ (y, inl refl) | false ↦ r ]

any_some : (p : ℕ → Bool) (xs : List ℕ) → list_any p xs ≡ true → SomeIn (filter p xs)
any_some p [] e = absurd (false≢true e)
any_some p (y ∷ xs) e = elim (or_cases (p y) (list_any p xs) e) [
  | inl t ↦ filter_some p y (y ∷ xs) (inl refl) t
  | inr more ↦
      let r = any_some p xs more in
      elim (p y) as (λ b. SomeIn (cond b (y ∷ filter p xs) (filter p xs))) [ true ↦ (y, inl refl) | false ↦ r ]
]

-- ---- the greatest

greatest_reached : (f : ℕ → ℕ) (xs : List ℕ) (a : ℕ) → (fold max a (map f xs) ≡ a) ⊎ ((x : ℕ) × In x xs × (f x ≡ fold max a (map f xs)))
greatest_reached f [] a = inl refl
greatest_reached f (x ∷ xs) a = elim (greatest_reached f xs (max a (f x))) [
  | inl e ↦ elim (cases_lt a (f x)) [
    | inl l ↦ inr (x, inl refl, omega (arith, e, l))
    | inr l ↦ inl (omega (arith, e, l))
  ]
  | inr r ↦ inr (r.0, inr r.1, r.2)
]

greatest_by_some : (f : ℕ → ℕ) (xs : List ℕ) → SomeIn xs → SomeIn (greatest_by f xs)
greatest_by_some f [] s = s
greatest_by_some f (y ∷ xs) s =
    let top = greatest (map f (y ∷ xs)) in
    elim (greatest_reached f xs (max 0 (f y))) [
      | inl e ↦
          let is : f y ≡ top = omega (arith, e) in
          filter_some (λ x. f x == top) y (y ∷ xs) (inl refl) (eq-eqb (f y) top is)
      | inr r ↦ filter_some (λ x. f x == top) r.0 (y ∷ xs) (inr r.1) (eq-eqb (f r.0) top r.2)
    ]

preferred_has : (p : ℕ → Bool) (x : ℕ) (xs : List ℕ) → In x (preferred p xs) → In x xs
preferred_has p x xs h =
    elim (list_any p xs) as (λ b. In x (cond b (filter p xs) xs) → In x xs) [ true ↦ filter_has p x xs | false ↦ λ i. i ] h

preferred_some : (p : ℕ → Bool) (xs : List ℕ) → SomeIn xs → SomeIn (preferred p xs)
preferred_some p xs s = elim (cases_Bool (list_any p xs)) [
  | inl t ↦ subst (λ b. SomeIn (cond b (filter p xs) xs)) (sym t) (any_some p xs t)
  | inr f ↦ subst (λ b. SomeIn (cond b (filter p xs) xs)) (sym f) s
]

pub ceiling_is_lawful : (ps cs : List ℕ) (ready : List Bool) (holds : List (Option ℕ)) (k : ℕ) → IsLawful ready (ceiling_names ps cs ready holds k)
ceiling_is_lawful ps cs ready holds k =
    let xs = places_from 0 ready in
    let f : ℕ → ℕ = active_priority ps cs holds in
    let urgent = greatest_by f xs in
    lawful_turn ready k (foremost ps cs holds xs)
    (λ x i. filter_has (λ x. f x == greatest (map f xs)) x xs (preferred_has (is_holder holds) x urgent i))
    (λ s. preferred_some (is_holder holds) urgent (greatest_by_some f xs s))

-- ---- the order of urgency

put_has : (ps : List ℕ) (x y : ℕ) (ys : List ℕ) → In x (put_before ps y ys) → In x (y ∷ ys)
put_has ps x y [] h = h
put_has ps x y (z ∷ zs) h =
    elim (nat_le (slice_index ps z) (slice_index ps y)) as (λ b. In x (cond b (y ∷ z ∷ zs) (z ∷ put_before ps y zs)) → In x (y ∷ z ∷ zs)) [
      | true ↦ λ i. i
      | false ↦ λ i. elim i [
        | inl e ↦ inr (inl e)
        | inr more ↦ elim (put_has ps x y zs more) [ inl e ↦ inl e | inr r ↦ inr (inr r) ]
      ]
    ] h

order_has : (ps : List ℕ) (x : ℕ) (xs : List ℕ) → In x (by_urgency ps xs) → In x xs
order_has ps x [] h = h
order_has ps x (y ∷ xs) h = elim (put_has ps x y (by_urgency ps xs) h) [ inl e ↦ inl e | inr more ↦ inr (order_has ps x xs more) ]

take_has : (n : ℕ) (x : ℕ) (xs : List ℕ) → In x (take n xs) → In x xs
take_has zero x xs h = absurd h
take_has (suc n) x [] h = absurd h
take_has (suc n) x (y ∷ xs) (inl e) = inl e
take_has (suc n) x (y ∷ xs) (inr h) = inr (take_has n x xs h)

put_some : (ps : List ℕ) (n x : ℕ) (ys : List ℕ) → SomeIn (take (suc n) (put_before ps x ys))
put_some ps n x [] = (x, inl refl)
put_some ps n x (y ∷ ys) = elim (nat_le (slice_index ps y) (slice_index ps x)) as (λ b. SomeIn (take (suc n) (cond b (x ∷ y ∷ ys) (y ∷ put_before ps x ys)))) [ true ↦ (x, inl refl) | false ↦ (y, inl refl) ]

order_some : (ps : List ℕ) (n : ℕ) (xs : List ℕ) → SomeIn xs → SomeIn (take (suc n) (by_urgency ps xs))
order_some ps n [] s = absurd s.1
order_some ps n (x ∷ xs) s = put_some ps n x (by_urgency ps xs)

-- on at least one core
pub cores_is_lawful : (ps : List ℕ) (n : ℕ) (ready : List Bool) (holds : List (Option ℕ)) (k : ℕ) → IsLawful ready (cores_names ps (suc n) ready holds k)
cores_is_lawful ps n ready holds k =
    let xs = places_from 0 ready in
    lawful_turn ready k (on_cores ps (suc n) ready)
    (λ x i. order_has ps x xs (take_has (suc n) x (by_urgency ps xs) i))
    (order_some ps n xs)

pub some_cores_are_lawful : (ps : List ℕ) (n : ℕ) (ready : List Bool) (holds : List (Option ℕ)) (k : ℕ) → IsLawful ready (cores_names ps (max 1 n) ready holds k)
some_cores_are_lawful ps zero ready holds k = cores_is_lawful ps 0 ready holds k
some_cores_are_lawful ps (suc n) ready holds k =
    let e : max 1 (suc n) ≡ suc n = omega arith in
    subst (λ m. IsLawful ready (cores_names ps m ready holds k)) (sym e) (cores_is_lawful ps n ready holds k)
