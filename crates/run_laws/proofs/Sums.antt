-- Sums over the numbers below n.
use Rattle.std.proofs.Common.{◌≡◌, ◌≢◌, inl, inr, ◌<◌, ◌≤◌, ℕ, zero, suc, ◌+◌, refl, sym, subst, arith}
use Rattle.std.proofs.lemmas.Bool.{cases_eq}

abbrev pub sum_to : ℕ → (ℕ → ℕ) → ℕ
sum_to zero f = 0
sum_to (suc n) f = sum_to n f + f n

pub sum_zero : (n : ℕ) (f : ℕ → ℕ) → ((x : ℕ) → f x ≡ 0) → sum_to n f ≡ 0
sum_zero zero f h = refl
sum_zero (suc n) f h = omega (arith, sum_zero n f h, h n)

pub sum_same : (n : ℕ) (f g : ℕ → ℕ) → ((x : ℕ) → x < n → f x ≡ g x) → sum_to n f ≡ sum_to n g
sum_same zero f g h = refl
sum_same (suc n) f g h = omega (arith, sum_same n f g (λ x l. h x (omega arith)), h n (omega arith))

-- one becomes less, and no other changes
pub sum_drop : (n x : ℕ) (f g : ℕ → ℕ) → x < n → suc (g x) ≤ f x → ((y : ℕ) → y ≢ x → g y ≡ f y) → suc (sum_to n g) ≤ sum_to n f
sum_drop zero x f g l d same = absurd (omega (arith, l))
sum_drop (suc n) x f g l d same = elim (cases_eq n x) [
  | inr h ↦ omega (arith, sum_drop n x f g (omega (arith, l, h)) d same, same n h)
  | inl h ↦
      let rest : sum_to n g ≡ sum_to n f = sum_same n g f (λ y m. same y (λ e. omega (arith, e, h, m))) in
      let last : suc (g n) ≤ f n = subst (λ z. suc (g z) ≤ f z) (sym h) d in
      omega (arith, rest, last)
]

-- one grows by c at most, and no other changes
pub sum_grow : (n x c : ℕ) (f g : ℕ → ℕ) → g x ≤ f x + c → ((y : ℕ) → y ≢ x → g y ≡ f y) → sum_to n g ≤ sum_to n f + c
sum_grow zero x c f g d same = omega arith
sum_grow (suc n) x c f g d same = elim (cases_eq n x) [
  | inr h ↦ omega (arith, sum_grow n x c f g d same, same n h)
  | inl h ↦
      let rest : sum_to n g ≡ sum_to n f = sum_same n g f (λ y m. same y (λ e. omega (arith, e, h, m))) in
      let last : g n ≤ f n + c = subst (λ z. g z ≤ f z + c) (sym h) d in
      omega (arith, rest, last)
]

-- the first apart
pub sum_first : (n : ℕ) (f : ℕ → ℕ) → sum_to (suc n) f ≡ f 0 + sum_to n (λ y. f (suc y))
sum_first zero f = omega arith
sum_first (suc n) f = omega (arith, sum_first n f)
