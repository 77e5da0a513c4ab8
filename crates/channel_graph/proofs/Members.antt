-- What a list has, by recursion, beside tests and filters.
use Rattle.std.proofs.Common.{◌≡◌, ℕ, zero, suc, ◌+◌, ◌<◌, ◌≤◌, List, [], ◌∷◌, length, get_or, filter, cond, Bool, true, false, ◌||◌, ◌⊎◌, inl, inr, Contains, arith, refl, sym, ◌∙◌, ap, subst}
use Rattle.std.proofs.lemmas.Bool.{false≢true, cases_Bool, or_cases, cases_lt}
use Rattle.std.specs.List.{list_any}
use Rattle.tower_syntax.specs.Graph.{numbers_before}

abbrev pub In : {X : Type 0} → X → List X → Type 0
In x [] = ⊥
In x (y ∷ ys) = (x ≡ y) ⊎ In x ys

pub or_left : (x y : Bool) → x ≡ true → (x || y) ≡ true
or_left true y h = refl
or_left false y h = absurd (false≢true h)

pub or_right : (x y : Bool) → y ≡ true → (x || y) ≡ true
or_right true y h = refl
or_right false y h = h

pub record Passes {X : Type 0} (p : X → Bool) (xs : List X) : Type 0 where
  pub element : X
  pub has : In element xs
  pub passes : p element ≡ true

pub any_has : {X : Type 0} (p : X → Bool) (xs : List X) → list_any p xs ≡ true → Passes p xs
any_has p [] h = absurd (false≢true h)
any_has p (y ∷ ys) h = elim (or_cases (p y) (list_any p ys) h) [
  | inl e ↦ record { element = y; has = inl refl; passes = e }
  | inr e ↦ let r = any_has p ys e in record { element = r.element; has = inr r.has; passes = r.passes }
]

pub has_any : {X : Type 0} (p : X → Bool) (xs : List X) (x : X) → In x xs → p x ≡ true → list_any p xs ≡ true
has_any p [] x h e = absurd h
has_any p (y ∷ ys) x h e = elim h [
  | inl same ↦ or_left (p y) (list_any p ys) (ap p (sym same) ∙ e)
  | inr later ↦ or_right (p y) (list_any p ys) (has_any p ys x later e)
]

pub filter_has : {X : Type 0} (p : X → Bool) (xs : List X) (x : X) → In x (filter p xs) → In x xs × (p x ≡ true)
filter_has p [] x h = absurd h
filter_has p (y ∷ ys) x h = elim (cases_Bool (p y)) [
  | inl e ↦
      let kept : In x (y ∷ filter p ys) = subst (λ b. In x (cond b (y ∷ filter p ys) (filter p ys))) e h in
      elim kept [
        | inl same ↦ (inl same, ap p same ∙ e)
        | inr later ↦ let r = filter_has p ys x later in (inr r.0, r.1)
      ]
  | inr e ↦
      let left : In x (filter p ys) = subst (λ b. In x (cond b (y ∷ filter p ys) (filter p ys))) e h in
      let r = filter_has p ys x left in (inr r.0, r.1)
]

pub has_filter : {X : Type 0} (p : X → Bool) (xs : List X) (x : X) → In x xs → p x ≡ true → In x (filter p xs)
has_filter p [] x h e = h
has_filter p (y ∷ ys) x h e = elim (cases_Bool (p y)) [
  | inl t ↦
      let kept : In x (y ∷ filter p ys) = elim h [ inl same ↦ inl same | inr later ↦ inr (has_filter p ys x later e) ] in
      subst (λ b. In x (cond b (y ∷ filter p ys) (filter p ys))) (sym t) kept
  | inr t ↦
      let left : In x (filter p ys) = elim h [
        | inl same ↦ absurd (false≢true (sym t ∙ ap p (sym same) ∙ e))
        | inr later ↦ has_filter p ys x later e
      ] in
      subst (λ b. In x (cond b (y ∷ filter p ys) (filter p ys))) (sym t) left
]

pub numbers_has : (n : ℕ) (ks : List ℕ) (k : ℕ) → In k (numbers_before n ks) → (k < n) ⊎ In k ks
numbers_has zero ks k h = inr h
numbers_has (suc n) ks k h = elim (numbers_has n (n ∷ ks) k h) [
  | inl lt ↦ inl (omega arith)
  | inr r ↦ elim r [ inl same ↦ inl (omega arith) | inr later ↦ inr later ]
]

pub has_numbers : (n : ℕ) (ks : List ℕ) (k : ℕ) → (k < n) ⊎ In k ks → In k (numbers_before n ks)
has_numbers zero ks k h = elim h [ inl lt ↦ absurd (omega arith) | inr r ↦ r ]
has_numbers (suc n) ks k h =
    let more : (k < n) ⊎ In k (n ∷ ks) = elim h [
      | inl lt ↦ elim (cases_lt k n) [ inl below ↦ inl below | inr above ↦ inr (inl (omega arith)) ]
      | inr r ↦ inr (inr r)
    ] in
    has_numbers n (n ∷ ks) k more

pub number_below : (n k : ℕ) → In k (numbers_before n []) → k < n
number_below n k h = elim (numbers_has n [] k h) [ inl lt ↦ lt | inr none ↦ absurd none ]

pub below_number : (n k : ℕ) → k < n → In k (numbers_before n [])
below_number n k h = has_numbers n [] k (inl h)

pub length-numbers : (n : ℕ) (ks : List ℕ) → length (numbers_before n ks) ≡ n + length ks
length-numbers zero ks = omega arith
length-numbers (suc n) ks = omega (arith, length-numbers n (n ∷ ks))

-- between this and the form by index
pub In-get_or : {X : Type 0} (xs : List X) (i : ℕ) (d : X) → i < length xs → In (get_or xs i d) xs
In-get_or [] i d h = absurd (omega arith)
In-get_or (x ∷ xs) zero d h = inl refl
In-get_or (x ∷ xs) (suc i) d h = inr (In-get_or xs i d (omega arith))

pub In-from_contains : {X : Type 0} (xs : List X) (x : X) → Contains xs x → In x xs
In-from_contains xs x h = subst (λ y. In y xs) h.2 (In-get_or xs h.0 x h.1)

pub contains_from_In : {X : Type 0} (xs : List X) (x : X) → In x xs → Contains xs x
contains_from_In [] x h = absurd h
contains_from_In (y ∷ ys) x h = elim h [
  | inl same ↦ (0, omega arith, sym same)
  | inr later ↦ let r = contains_from_In ys x later in (suc r.0, omega arith, r.2)
]

-- a test that passes wherever another does keeps at least as many
pub length-filter-le : (p q : ℕ → Bool) (xs : List ℕ) → ((x : ℕ) → In x xs → p x ≡ true → q x ≡ true) → length (filter p xs) ≤ length (filter q xs)
length-filter-le p q [] wider = omega arith
length-filter-le p q (x ∷ xs) wider =
    let rest : length (filter p xs) ≤ length (filter q xs) = length-filter-le p q xs (λ y h. wider y (inr h)) in
    elim (cases_Bool (p x)) [
      | inl t ↦ let u : q x ≡ true = wider x (inl refl) t in rw (t, u) (omega arith)
      | inr t ↦ elim (cases_Bool (q x)) [ inl u ↦ rw (t, u) (omega arith) | inr u ↦ rw (t, u) rest ]
    ]

-- and the same, where it keeps no more
pub filter-same : (p q : ℕ → Bool) (xs : List ℕ) → ((x : ℕ) → In x xs → p x ≡ true → q x ≡ true) → length (filter q xs) ≤ length (filter p xs) → filter q xs ≡ filter p xs
filter-same p q [] wider few = refl
filter-same p q (x ∷ xs) wider few =
    let least : length (filter p xs) ≤ length (filter q xs) = length-filter-le p q xs (λ y h. wider y (inr h)) in
    elim (cases_Bool (p x)) [
      | inl t ↦
          let u : q x ≡ true = wider x (inl refl) t in
          let fewer : length (x ∷ filter q xs) ≤ length (x ∷ filter p xs) = rw (t, u) at few in
          rw (t, u) (ap (λ ys. x ∷ ys) (filter-same p q xs (λ y h. wider y (inr h)) (omega arith)))
      | inr t ↦ elim (cases_Bool (q x)) [
        | inl u ↦
            let fewer : length (x ∷ filter q xs) ≤ length (filter p xs) = rw (t, u) at few in
            absurd (omega arith)
        | inr u ↦
            let fewer : length (filter q xs) ≤ length (filter p xs) = rw (t, u) at few in
            rw (t, u) (filter-same p q xs (λ y h. wider y (inr h)) fewer)
      ]
    ]

-- tests that agree on the list keep the same
pub filter-agree : (p q : ℕ → Bool) (xs : List ℕ) → ((x : ℕ) → In x xs → p x ≡ true → q x ≡ true) → ((x : ℕ) → In x xs → q x ≡ true → p x ≡ true) → filter q xs ≡ filter p xs
filter-agree p q xs wider narrower = filter-same p q xs wider (length-filter-le q p xs narrower)
