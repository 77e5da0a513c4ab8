-- The foremost of some tasks, and of those of them that are ready.
use Rattle.std.proofs.Common.{◌≡◌, ◌∙◌, inl, inr, ◌≤◌, ℕ, zero, suc, Bool, true, false, cond, List, [], ◌∷◌, map, fold, length, Some, refl, sym, ap, arith, slice_get}
use Rattle.std.specs.Prelude.{max, filter, ◌==◌, ◌%◌}
use Rattle.std.specs.List.{list_any}
use Rattle.std.proofs.lemmas.Bool.{cases_Bool, false≢true, eqb-true, eq-eqb}
use Rattle.std.proofs.lemmas.Option.{same_Some}
use Rattle.task_code.specs.Policy.{at_turn, greatest}
use Rattle.task_code.specs.Ceiling.{greatest_by, preferred}
use Rattle.channel_graph.proofs.Members.{In, any_has, has_any, filter_has, has_filter}

filter_yes : (p : ℕ → Bool) (x : ℕ) (xs : List ℕ) → p x ≡ true → filter p (x ∷ xs) ≡ x ∷ filter p xs
filter_yes p x xs e = ap (λ b. cond b (x ∷ filter p xs) (filter p xs)) e

filter_no : (p : ℕ → Bool) (x : ℕ) (xs : List ℕ) → p x ≡ false → filter p (x ∷ xs) ≡ filter p xs
filter_no p x xs e = ap (λ b. cond b (x ∷ filter p xs) (filter p xs)) e

-- a filter that passes what a later one passes
pub filter_skip : (later first : ℕ → Bool) (xs : List ℕ) → ((x : ℕ) → In x xs → later x ≡ true → first x ≡ true) → filter later (filter first xs) ≡ filter later xs
filter_skip later first [] h = refl
filter_skip later first (x ∷ xs) h =
    let more : filter later (filter first xs) ≡ filter later xs = filter_skip later first xs (λ y i. h y (inr i)) in
    elim (cases_Bool (first x)) [
      | inl a ↦ ap (filter later) (filter_yes first x xs a) ∙ ap (λ ys. cond (later x) (x ∷ ys) ys) more
      | inr a ↦ elim (cases_Bool (later x)) [
        | inl b ↦ absurd (false≢true (sym a ∙ h x (inl refl) b))
        | inr b ↦ ap (filter later) (filter_no first x xs a) ∙ more ∙ sym (filter_no later x xs b)
      ]
    ]

-- the same below another filter
filter_below : (last between first : ℕ → Bool) (xs : List ℕ) → ((x : ℕ) → In x xs → last x ≡ true → first x ≡ true) → filter last (filter between (filter first xs)) ≡ filter last (filter between xs)
filter_below last between first [] h = refl
filter_below last between first (x ∷ xs) h =
    let more : filter last (filter between (filter first xs)) ≡ filter last (filter between xs) = filter_below last between first xs (λ y i. h y (inr i)) in
    elim (cases_Bool (first x)) [
      | inl a ↦ ap (λ ys. filter last (filter between ys)) (filter_yes first x xs a) ∙ elim (cases_Bool (between x)) [
        | inl b ↦ ap (filter last) (filter_yes between x (filter first xs) b) ∙ ap (λ ys. cond (last x) (x ∷ ys) ys) more ∙ sym (ap (filter last) (filter_yes between x xs b))
        | inr b ↦ ap (filter last) (filter_no between x (filter first xs) b) ∙ more ∙ sym (ap (filter last) (filter_no between x xs b))
      ]
      | inr a ↦ ap (λ ys. filter last (filter between ys)) (filter_no first x xs a) ∙ more ∙ elim (cases_Bool (between x)) [
        | inl b ↦ elim (cases_Bool (last x)) [
          | inl c ↦ absurd (false≢true (sym a ∙ h x (inl refl) c))
          | inr c ↦ sym (ap (filter last) (filter_yes between x xs b) ∙ filter_no last x (filter between xs) c)
        ]
        | inr b ↦ sym (ap (filter last) (filter_no between x xs b))
      ]
    ]

-- ---- the greatest

fold_least : (a : ℕ) (ns : List ℕ) → a ≤ fold max a ns
fold_least a [] = omega arith
fold_least a (n ∷ ns) = omega (arith, fold_least (max a n) ns)

fold_most : (a b : ℕ) (f : ℕ → ℕ) (xs : List ℕ) → a ≤ b → ((x : ℕ) → In x xs → f x ≤ b) → fold max a (map f xs) ≤ b
fold_most a b f [] l h = l
fold_most a b f (x ∷ xs) l h = fold_most (max a (f x)) b f xs (omega (arith, l, h x (inl refl))) (λ y k. h y (inr k))

fold_has : (a : ℕ) (f : ℕ → ℕ) (x : ℕ) (xs : List ℕ) → In x xs → f x ≤ fold max a (map f xs)
fold_has a f x [] h = absurd h
fold_has a f x (y ∷ xs) (inl is) =
    let same : f x ≡ f y = ap f is in
    omega (arith, fold_least (max a (f y)) (map f xs), same)
fold_has a f x (y ∷ xs) (inr h) = fold_has (max a (f y)) f x xs h

pub greatest_has : (f : ℕ → ℕ) (x : ℕ) (xs : List ℕ) → In x xs → f x ≤ greatest (map f xs)
greatest_has f x xs h = fold_has 0 f x xs h

pub greatest_most : (b : ℕ) (f : ℕ → ℕ) (xs : List ℕ) → ((x : ℕ) → In x xs → f x ≤ b) → greatest (map f xs) ≤ b
greatest_most b f xs h = fold_most 0 b f xs (omega arith) h

-- ---- who is named

get_in : (x i : ℕ) (xs : List ℕ) → slice_get xs i ≡ Some x → In x xs
get_in x i [] e = cc
get_in x zero (y ∷ xs) e = inl (sym (same_Some y x e))
get_in x (suc i) (y ∷ xs) e = inr (get_in x i xs e)

turn_in : (k x : ℕ) (xs : List ℕ) → at_turn k xs ≡ Some x → In x xs
turn_in k x [] e = cc
turn_in k x (y ∷ xs) e = get_in x (k % length (y ∷ xs)) (y ∷ xs) e

-- x is one of these with the greatest number, and is preferred where one of those is
pub record IsForemost (f : ℕ → ℕ) (h : ℕ → Bool) (xs : List ℕ) (x : ℕ) : Type 0 where
  pub given : In x xs
  pub greatest : (y : ℕ) → In y xs → f y ≤ f x
  pub preferred : (y : ℕ) → In y xs → f y ≡ f x → h y ≡ true → h x ≡ true

-- who of some tasks is not ready, has no greater number than one of them that is preferred; and each of those is ready
pub record GiveWay (f : ℕ → ℕ) (h : ℕ → Bool) (busy : List ℕ) (ready : ℕ → Bool) : Type 0 where
  pub ready_first : (x : ℕ) → In x busy → h x ≡ true → ready x ≡ true
  pub behind : (x : ℕ) → In x busy → ready x ≡ false → (y : ℕ) × In y busy × (h y ≡ true) × (f x ≤ f y)

module _ (f : ℕ → ℕ) (h : ℕ → Bool) where
  top_has : (x : ℕ) (xs : List ℕ) → In x (greatest_by f xs) → In x xs × (f x ≡ greatest (map f xs))
  top_has x xs k =
      let r = filter_has (λ x. f x == greatest (map f xs)) xs x k in
      (r.0, eqb-true (f x) (greatest (map f xs)) r.1)

  has_top : (x : ℕ) (xs : List ℕ) → In x xs → f x ≡ greatest (map f xs) → In x (greatest_by f xs)
  has_top x xs k e = has_filter (λ x. f x == greatest (map f xs)) xs x k (eq-eqb (f x) (greatest (map f xs)) e)

  preferred_of : (x : ℕ) (us : List ℕ) (b : Bool) → list_any h us ≡ b → In x (cond b (filter h us) us) → In x us × (b ≡ true → h x ≡ true)
  preferred_of x us true e k = let r = filter_has h us x k in (r.0, λ w. r.1)
  preferred_of x us false e k = (k, λ w. absurd (false≢true w))

  pub foremost_is : (xs : List ℕ) (k x : ℕ) → at_turn k (preferred h (greatest_by f xs)) ≡ Some x → IsForemost f h xs x
  foremost_is xs k x e =
      let us : List ℕ = greatest_by f xs in
      let r = preferred_of x us (list_any h us) refl (turn_in k x (preferred h us) e) in
      let u = top_has x xs r.0 in
      record {
        given = u.0;
        greatest = λ y m. omega (arith, u.1, greatest_has f y xs m);
        preferred = λ y m same is. r.1 (has_any h us y (has_top y xs m (same ∙ u.1)) is);
      }

  -- ---- the rule over all that are not idle

  module _ (ready : ℕ → Bool) (busy : List ℕ) (w : GiveWay f h busy ready) where
    most : greatest (map f (filter ready busy)) ≤ greatest (map f busy)
    most = greatest_most (greatest (map f busy)) f (filter ready busy) (λ x k. greatest_has f x busy (filter_has ready busy x k).0)

    least : greatest (map f busy) ≤ greatest (map f (filter ready busy))
    least = greatest_most (greatest (map f (filter ready busy))) f busy (λ x k. elim (cases_Bool (ready x)) [
      | inl e ↦ greatest_has f x (filter ready busy) (has_filter ready busy x k e)
      | inr e ↦
          let y = w.behind x k e in
          omega (arith, y.3, greatest_has f y.0 (filter ready busy) (has_filter ready busy y.0 y.1 (w.ready_first y.0 y.1 y.2)))
    ])

    same_greatest : greatest (map f (filter ready busy)) ≡ greatest (map f busy)
    same_greatest = omega (arith, most, least)

    abbrev is_top : ℕ → Bool
    is_top x = f x == greatest (map f busy)

    same_tops : greatest_by f (filter ready busy) ≡ filter is_top (filter ready busy)
    same_tops = ap (λ g. filter (λ x. f x == g) (filter ready busy)) same_greatest

    none_preferred : list_any h (filter is_top busy) ≡ false → (x : ℕ) → In x busy → is_top x ≡ true → ready x ≡ true
    none_preferred none x k e = elim (cases_Bool (ready x)) [
      | inl r ↦ r
      | inr r ↦
          let y = w.behind x k r in
          let top : f x ≡ greatest (map f busy) = eqb-true (f x) (greatest (map f busy)) e in
          let same : f y.0 ≡ greatest (map f busy) = omega (arith, top, y.3, greatest_has f y.0 busy y.1) in
          absurd (false≢true (sym none ∙ has_any h (filter is_top busy) y.0 (has_top y.0 busy y.1 same) y.2))
    ]

    either : (b : Bool) → list_any h (filter is_top busy) ≡ b → preferred h (filter is_top (filter ready busy)) ≡ preferred h (filter is_top busy)
    either true e =
        let y = any_has h (filter is_top busy) e in
        let u = top_has y.element busy y.has in
        let there : list_any h (filter is_top (filter ready busy)) ≡ true =
        has_any h (filter is_top (filter ready busy)) y.element
        (has_filter is_top (filter ready busy) y.element (has_filter ready busy y.element u.0 (w.ready_first y.element u.0 y.passes)) (eq-eqb (f y.element) (greatest (map f busy)) u.1)) y.passes in
        ap (λ b. cond b (filter h (filter is_top (filter ready busy))) (filter is_top (filter ready busy))) there
        ∙ filter_below h is_top ready busy w.ready_first
        ∙ sym (ap (λ b. cond b (filter h (filter is_top busy)) (filter is_top busy)) e)
    either false e = ap (preferred h) (filter_skip is_top ready busy (none_preferred e))

    -- the foremost of all are the foremost of the ready ones
    pub same_foremost : preferred h (greatest_by f (filter ready busy)) ≡ preferred h (greatest_by f busy)
    same_foremost = ap (preferred h) same_tops ∙ either (list_any h (filter is_top busy)) refl
