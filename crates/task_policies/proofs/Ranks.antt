-- The order of urgency, level by level.
use Rattle.std.proofs.Common.{◌≡◌, ◌∙◌, ◌⊎◌, inl, inr, ℕ, zero, suc, ◌+◌, ◌-◌, ◌<◌, ◌≤◌, List, [], ◌∷◌, ◌++◌, map, take, Bool, true, false, ◌==◌, cond, Option, Some, None, length, slice_get, slice_index, refl, sym, ap, subst, arith}
use Rattle.std.specs.Prelude.{filter, nat_lt, nat_le, max, min, ◌%◌}
use Rattle.std.proofs.lemmas.Bool.{cases_Bool, cases_lt, false≢true, eq-eqb, ne_eqb, eqb-true, le-leb, leb-true, lt-ltb, ltb-true, le-ltb}
use Rattle.std.proofs.lemmas.Option.{same_Some, none-some}
use Rattle.std.proofs.Math.Nat.{mod-lt}
use Rattle.task_code.specs.Policy.{places_from, at_turn}
use Rattle.task_code.specs.Cores.{put_before, by_urgency, on_cores}
use Rattle.task_policies.specs.Rules.{is_below, greatest_from, level_below}
use Rattle.task_policies.specs.Lawful.{ready_given}
use Rattle.task_policies.proofs.Filters.{filter_yes, filter_no, filter_skip, filter_all}

module _ (ps : List ℕ) where
  abbrev f : ℕ → ℕ
  f = slice_index ps

  abbrev Each : (ℕ → Type 0) → List ℕ → Type 0
  Each P [] = Unit {0}
  Each P (x ∷ xs) = P x × Each P xs

  abbrev AtMost : ℕ → List ℕ → Type 0
  AtMost t xs = Each (λ x. f x ≤ t) xs

  abbrev Below : ℕ → List ℕ → Type 0
  Below n xs = Each (λ x. f x < n) xs

  abbrev is_at : ℕ → ℕ → Bool
  is_at t x = f x == t

  -- ---- one more task

  put_first : (x : ℕ) (ys : List ℕ) → AtMost (f x) ys → put_before ps x ys ≡ x ∷ ys
  put_first x [] h = refl
  put_first x (y ∷ ys) h = ap (λ b. cond b (x ∷ y ∷ ys) (y ∷ put_before ps x ys)) (le-leb (f y) (f x) h.0)

  put_behind : (t x : ℕ) (ys zs : List ℕ) → f x < t → put_before ps x (filter (is_at t) ys ++ zs) ≡ filter (is_at t) ys ++ put_before ps x zs
  put_behind t x [] zs l = refl
  put_behind t x (y ∷ ys) zs l = elim (cases_Bool (is_at t y)) [
    | inl e ↦
        let same : f y ≡ t = eqb-true (f y) t e in
        let not_le : nat_le (f y) (f x) ≡ false = elim (cases_Bool (nat_le (f y) (f x))) [ inl b ↦ absurd (omega (arith, leb-true (f y) (f x) b, same, l)) | inr b ↦ b ] in
        ap (λ ws. put_before ps x (ws ++ zs)) (filter_yes (is_at t) y ys e)
        ∙ ap (λ b. cond b (x ∷ y ∷ filter (is_at t) ys ++ zs) (y ∷ put_before ps x (filter (is_at t) ys ++ zs))) not_le
        ∙ ap (λ ws. y ∷ ws) (put_behind t x ys zs l)
        ∙ sym (ap (λ ws. ws ++ put_before ps x zs) (filter_yes (is_at t) y ys e))
    | inr e ↦
        ap (λ ws. put_before ps x (ws ++ zs)) (filter_no (is_at t) y ys e)
        ∙ put_behind t x ys zs l
        ∙ sym (ap (λ ws. ws ++ put_before ps x zs) (filter_no (is_at t) y ys e))
  ]

  at_most_put : (t x : ℕ) (ys : List ℕ) → f x ≤ t → AtMost t ys → AtMost t (put_before ps x ys)
  at_most_put t x [] l h = (l, tt)
  at_most_put t x (y ∷ ys) l h = elim (nat_le (f y) (f x)) as (λ b. AtMost t (cond b (x ∷ y ∷ ys) (y ∷ put_before ps x ys))) [ true ↦ (l, h) | false ↦ (h.0, at_most_put t x ys l h.1) ]

  at_most_order : (t : ℕ) (xs : List ℕ) → AtMost t xs → AtMost t (by_urgency ps xs)
  at_most_order t [] h = tt
  at_most_order t (x ∷ xs) h = at_most_put t x (by_urgency ps xs) h.0 (at_most_order t xs h.1)

  -- those of the greatest priority, and then the order of the rest
  pub by_level : (t : ℕ) (xs : List ℕ) → AtMost t xs → by_urgency ps xs ≡ filter (is_at t) xs ++ by_urgency ps (filter (is_below ps t) xs)
  by_level t [] h = refl
  by_level t (x ∷ xs) h =
      let rest = by_level t xs h.1 in
      elim (cases_lt (f x) t) [
        | inl l ↦
            let no : is_at t x ≡ false = ne_eqb (f x) t (λ e. omega (arith, e, l)) in
            let low : is_below ps t x ≡ true = lt-ltb (f x) t l in
            ap (put_before ps x) rest
            ∙ put_behind t x xs (by_urgency ps (filter (is_below ps t) xs)) l
            ∙ sym (ap (λ ws. ws ++ by_urgency ps (filter (is_below ps t) (x ∷ xs))) (filter_no (is_at t) x xs no)
            ∙ ap (λ ws. filter (is_at t) xs ++ by_urgency ps ws) (filter_yes (is_below ps t) x xs low))
        | inr l ↦
            let same : f x ≡ t = omega (arith, l, h.0) in
            let yes : is_at t x ≡ true = eq-eqb (f x) t same in
            let high : is_below ps t x ≡ false = le-ltb (f x) t l in
            put_first x (by_urgency ps xs) (at_most_order (f x) xs (subst (λ t. AtMost t xs) (sym same) h.1))
            ∙ ap (λ ws. x ∷ ws) rest
            ∙ sym (ap (λ ws. ws ++ by_urgency ps (filter (is_below ps t) (x ∷ xs))) (filter_yes (is_at t) x xs yes)
            ∙ ap (λ ws. x ∷ filter (is_at t) xs ++ by_urgency ps ws) (filter_no (is_below ps t) x xs high))
      ]

  -- ---- levels

  are_below : (limit : ℕ) (xs : List ℕ) → Below limit (filter (is_below ps limit) xs)
  are_below limit [] = tt
  are_below limit (x ∷ xs) = elim (cases_Bool (is_below ps limit x)) [
    | inl e ↦ subst (Below limit) (sym (filter_yes (is_below ps limit) x xs e)) (ltb-true (f x) limit e, are_below limit xs)
    | inr e ↦ subst (Below limit) (sym (filter_no (is_below ps limit) x xs e)) (are_below limit xs)
  ]

  record IsGreatest (limit m t : ℕ) (ys : List ℕ) : Type 0 where
    least : m ≤ t
    most : AtMost t ys
    below : t < limit

  from_some : (limit m t : ℕ) (ys : List ℕ) → m < limit → Below limit ys → greatest_from (Some m) (map f ys) ≡ Some t → IsGreatest limit m t ys
  from_some limit m t [] l h e =
      let same : m ≡ t = same_Some m t e in
      record { least = omega (arith, same); most = tt; below = omega (arith, same, l) }
  from_some limit m t (y ∷ ys) l h e =
      let r = from_some limit (max m (f y)) t ys (omega (arith, l, h.0)) h.1 e in
      record { least = omega (arith, r.least); most = (omega (arith, r.least), r.most); below = r.below }

  some_stays : (m : ℕ) (ys : List ℕ) → greatest_from (Some m) (map f ys) ≡ None → ⊥
  some_stays m [] e = cc
  some_stays m (y ∷ ys) e = some_stays (max m (f y)) ys e

  pub record IsLevel (limit t : ℕ) (xs : List ℕ) : Type 0 where
    pub below : t < limit
    pub most : AtMost t (filter (is_below ps limit) xs)

  level_of : (limit t : ℕ) (ys : List ℕ) → Below limit ys → greatest_from None (map f ys) ≡ Some t → (t < limit) × AtMost t ys
  level_of limit t [] h e = cc
  level_of limit t (y ∷ ys) h e = let r = from_some limit (f y) t ys h.0 h.1 e in (r.below, (r.least, r.most))

  pub level_is : (limit t : ℕ) (xs : List ℕ) → level_below ps limit xs ≡ Some t → IsLevel limit t xs
  level_is limit t xs e =
      let r = level_of limit t (filter (is_below ps limit) xs) (are_below limit xs) e in
      record { below = r.0; most = r.1 }

  none_left : (ys : List ℕ) → greatest_from None (map f ys) ≡ None → ys ≡ []
  none_left [] e = refl
  none_left (y ∷ ys) e = absurd (some_stays (f y) ys e)

  pub level_none : (limit : ℕ) (xs : List ℕ) → level_below ps limit xs ≡ None → filter (is_below ps limit) xs ≡ []
  level_none limit xs e = none_left (filter (is_below ps limit) xs) e

  -- the order of what is below a limit begins with its level, and goes on with what is below that
  pub next_level : (limit t : ℕ) (xs : List ℕ) → level_below ps limit xs ≡ Some t
      → by_urgency ps (filter (is_below ps limit) xs) ≡ filter (is_at t) xs ++ by_urgency ps (filter (is_below ps t) xs)
  next_level limit t xs e =
      let r = level_is limit t xs e in
      by_level t (filter (is_below ps limit) xs) r.most
      ∙ ap (λ ws. ws ++ by_urgency ps (filter (is_below ps t) (filter (is_below ps limit) xs)))
      (filter_skip (is_at t) (is_below ps limit) (λ x h. let same : f x ≡ t = eqb-true (f x) t h in lt-ltb (f x) limit (omega (arith, same, r.below))) xs)
      ∙ ap (λ ws. filter (is_at t) xs ++ by_urgency ps ws)
      (filter_skip (is_below ps t) (is_below ps limit) (λ x h. lt-ltb (f x) limit (omega (arith, ltb-true (f x) t h, r.below))) xs)

  -- ---- lengths

  length_put : (x : ℕ) (ys : List ℕ) → length (put_before ps x ys) ≡ suc (length ys)
  length_put x [] = refl
  length_put x (y ∷ ys) =
      let more = length_put x ys in
      elim (nat_le (f y) (f x)) as (λ b. length (cond b (x ∷ y ∷ ys) (y ∷ put_before ps x ys)) ≡ suc (suc (length ys))) [ true ↦ refl | false ↦ ap suc more ]

  pub length_order : (xs : List ℕ) → length (by_urgency ps xs) ≡ length xs
  length_order [] = refl
  length_order (x ∷ xs) = length_put x (by_urgency ps xs) ∙ ap suc (length_order xs)

-- ---- the tasks on cores

all_given : (xs : List ℕ) → filter (λ x. true) xs ≡ xs
all_given xs = filter_all (λ x. true) (λ x. refl) xs

pub length_take : (n : ℕ) (xs : List ℕ) → length (take n xs) ≡ min (length xs) n
length_take zero xs = omega arith
length_take (suc n) [] = omega arith
length_take (suc n) (x ∷ xs) = omega (arith, length_take n xs)

pub length_cores : (ps : List ℕ) (n : ℕ) (ready : List Bool) → length (on_cores ps n ready) ≡ min (length (filter (λ x. true) (places_from 0 ready))) n
length_cores ps n ready =
    length_take n (by_urgency ps (places_from 0 ready))
    ∙ ap (λ m. min m n) (length_order ps (places_from 0 ready) ∙ sym (ap length (all_given (places_from 0 ready))))

-- ---- places in lists

pub get_left : (xs ys : List ℕ) (i : ℕ) → i < length xs → slice_get (xs ++ ys) i ≡ slice_get xs i
get_left [] ys i l = absurd (omega (arith, l))
get_left (x ∷ xs) ys zero l = refl
get_left (x ∷ xs) ys (suc i) l = get_left xs ys i (omega (arith, l))

pub get_right : (xs ys : List ℕ) (i : ℕ) → length xs ≤ i → slice_get (xs ++ ys) i ≡ slice_get ys (i - length xs)
get_right [] ys i l = let e : i ≡ i - 0 = omega arith in ap (slice_get ys) e
get_right (x ∷ xs) ys zero l = absurd (omega (arith, l))
get_right (x ∷ xs) ys (suc i) l = get_right xs ys i (omega (arith, l)) ∙ (let e : i - length xs ≡ suc i - suc (length xs) = omega arith in ap (slice_get ys) e)

pub get_take : (n : ℕ) (xs : List ℕ) (i : ℕ) → i < n → slice_get (take n xs) i ≡ slice_get xs i
get_take zero xs i l = absurd (omega (arith, l))
get_take (suc n) [] i l = refl
get_take (suc n) (x ∷ xs) zero l = refl
get_take (suc n) (x ∷ xs) (suc i) l = get_take n xs i (omega (arith, l))

-- one of the first n, at a turn
pub turn_of : (n k i : ℕ) (xs : List ℕ) → (0 < length (take n xs) → i ≡ k % length (take n xs)) → (length (take n xs) ≡ 0 → i ≡ 0) → 0 < n → at_turn k (take n xs) ≡ slice_get xs i
turn_of zero k i xs some none l = absurd (omega (arith, l))
turn_of (suc n) k i [] some none l = refl
turn_of (suc n) k i (x ∷ xs) some none l =
    let ys = take (suc n) (x ∷ xs) in
    let is : i ≡ k % length ys = some (omega arith) in
    let few : length ys ≤ suc n = omega (arith, length_take (suc n) (x ∷ xs)) in
    let m : k % length ys < length ys = mod-lt k (omega arith) in
    ap (slice_get ys) (sym is) ∙ get_take (suc n) (x ∷ xs) i (omega (arith, is, m, few))

-- where a task is ready, one is on a core
pub some_on_cores : (ps : List ℕ) (n : ℕ) (ready : List Bool) (x : ℕ) → slice_get ready x ≡ Some true → 1 ≤ n → 0 < length (on_cores ps n ready)
some_on_cores ps n ready x e l =
    let some = ready_given ready x e in
    let all : length (by_urgency ps (places_from 0 ready)) ≡ length (places_from 0 ready) = length_order ps (places_from 0 ready) in
    omega (arith, length_take n (by_urgency ps (places_from 0 ready)), all, some, l)
