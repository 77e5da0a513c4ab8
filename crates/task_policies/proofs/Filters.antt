-- Filters of filters.
use Rattle.std.proofs.Common.{◌≡◌, ◌∙◌, ℕ, suc, List, [], ◌∷◌, Bool, true, false, ◌&&◌, ◌||◌, not, cond, length, refl, sym, ap, arith, inl, inr}
use Rattle.std.specs.Prelude.{filter, nat_lt}
use Rattle.std.specs.List.{list_any}
use Rattle.std.proofs.lemmas.Bool.{cases_Bool, false≢true, lt-ltb}

pub filter_yes : (p : ℕ → Bool) (x : ℕ) (xs : List ℕ) → p x ≡ true → filter p (x ∷ xs) ≡ x ∷ filter p xs
filter_yes p x xs e = ap (λ b. cond b (x ∷ filter p xs) (filter p xs)) e

pub filter_no : (p : ℕ → Bool) (x : ℕ) (xs : List ℕ) → p x ≡ false → filter p (x ∷ xs) ≡ filter p xs
filter_no p x xs e = ap (λ b. cond b (x ∷ filter p xs) (filter p xs)) e

-- a filter that passes what a later one passes
pub filter_skip : (later first : ℕ → Bool) → ((x : ℕ) → later x ≡ true → first x ≡ true) → (xs : List ℕ) → filter later (filter first xs) ≡ filter later xs
filter_skip later first h [] = refl
filter_skip later first h (x ∷ xs) =
    let more = filter_skip later first h xs in
    elim (cases_Bool (first x)) [
      | inl a ↦ ap (filter later) (filter_yes first x xs a) ∙ ap (λ ys. cond (later x) (x ∷ ys) ys) more
      | inr a ↦ elim (cases_Bool (later x)) [
        | inl b ↦ absurd (false≢true (sym a ∙ h x b))
        | inr b ↦ ap (filter later) (filter_no first x xs a) ∙ more ∙ sym (filter_no later x xs b)
      ]
    ]

pub filter_all : (p : ℕ → Bool) → ((x : ℕ) → p x ≡ true) → (xs : List ℕ) → filter p xs ≡ xs
filter_all p h [] = refl
filter_all p h (x ∷ xs) = filter_yes p x xs (h x) ∙ ap (λ ys. x ∷ ys) (filter_all p h xs)

one_of : (a h : Bool) (x : ℕ) (xs ys : List ℕ) → cond (a && h) (x ∷ ys) ys ≡ cond a (cond h (x ∷ ys) ys) ys
one_of true h x xs ys = refl
one_of false h x xs ys = refl

-- one filter for two, of which the second may be left out
pub filter_if : (a h : ℕ → Bool) (only : Bool) (xs : List ℕ) → filter (λ x. a x && (not only || h x)) xs ≡ cond only (filter h (filter a xs)) (filter a xs)
filter_if a h only [] = elim only as (λ o. ◌≡◌ {A = List ℕ} [] (cond o [] [])) [ true ↦ refl | false ↦ refl ]
filter_if a h true (x ∷ xs) = elim (cases_Bool (a x)) [
  | inl t ↦
      ap (λ b. cond (b && h x) (x ∷ filter (λ x. a x && h x) xs) (filter (λ x. a x && h x) xs)) t
      ∙ ap (λ ys. cond (h x) (x ∷ ys) ys) (filter_if a h true xs) ∙ sym (ap (filter h) (filter_yes a x xs t))
  | inr f ↦
      ap (λ b. cond (b && h x) (x ∷ filter (λ x. a x && h x) xs) (filter (λ x. a x && h x) xs)) f
      ∙ filter_if a h true xs ∙ sym (ap (filter h) (filter_no a x xs f))
]
filter_if a h false (x ∷ xs) = elim (cases_Bool (a x)) [
  | inl t ↦
      ap (λ b. cond (b && true) (x ∷ filter (λ x. a x && true) xs) (filter (λ x. a x && true) xs)) t
      ∙ ap (λ ys. x ∷ ys) (filter_if a h false xs) ∙ sym (filter_yes a x xs t)
  | inr f ↦
      ap (λ b. cond (b && true) (x ∷ filter (λ x. a x && true) xs) (filter (λ x. a x && true) xs)) f
      ∙ filter_if a h false xs ∙ sym (filter_no a x xs f)
]

-- a test that one passes
pub any_is : (h : ℕ → Bool) (xs : List ℕ) → nat_lt 0 (length (filter h xs)) ≡ list_any h xs
any_is h [] = refl
any_is h (x ∷ xs) = elim (h x) as (λ b. nat_lt 0 (length (cond b (x ∷ filter h xs) (filter h xs))) ≡ (b || list_any h xs)) [ true ↦ lt-ltb 0 (suc (length (filter h xs))) (omega arith) | false ↦ any_is h xs ]
