-- Sums and tests over the numbers below n.
use Rattle.std.proofs.Common.{◌≡◌, ◌≢◌, ◌⊎◌, inl, inr, ◌<◌, ◌≤◌, ℕ, zero, suc, ◌+◌, ◌-◌, ◌*◌, ◌/◌, Bool, true, false, refl, sym, ap, subst, arith}
use Rattle.std.specs.Prelude.{◌||◌, ◌%◌}
use Rattle.std.proofs.lemmas.Bool.{cases_lt, and_parts, and_from, and_cases}
use Rattle.std.proofs.lemmas.Nat.{le-div, div-add-mod', mul-le}
use Rattle.stretch_law.specs.Counts.{sum_to, greatest_to, all_to, any_to, up}

pub below_suc : (x n : ℕ) → x < suc n → (x < n) ⊎ (x ≡ n)
below_suc x n l = elim (cases_lt x n) [ inl h ↦ inl h | inr h ↦ inr (omega arith) ]

pub sum_zero : (n : ℕ) (f : ℕ → ℕ) → ((x : ℕ) → x < n → f x ≡ 0) → sum_to n f ≡ 0
sum_zero zero f h = refl
sum_zero (suc n) f h = omega (arith, sum_zero n f (λ x l. h x (omega arith)), h n (omega arith))

-- at most one is not 0
pub sum_most : (n b : ℕ) (f : ℕ → ℕ) → ((x : ℕ) → x < n → f x ≤ b) → ((x y : ℕ) → x < n → y < n → 0 < f x → 0 < f y → x ≡ y) → sum_to n f ≤ b
sum_most zero b f h one = omega arith
sum_most (suc n) b f h one = elim (cases_lt 0 (f n)) [
  | inl l ↦
      let none : sum_to n f ≡ 0 = sum_zero n f (λ x m. elim (cases_lt 0 (f x)) [ inl k ↦ absurd (omega (arith, one x n (omega arith) (omega arith) k l, m)) | inr k ↦ omega (arith, k) ]) in
      omega (arith, none, h n (omega arith))
  | inr l ↦ omega (arith, l, sum_most n b f (λ x m. h x (omega arith)) (λ x y m k. one x y (omega arith) (omega arith)))
]

pub sum_le : (n : ℕ) (f g : ℕ → ℕ) → ((x : ℕ) → x < n → f x ≤ g x) → sum_to n f ≤ sum_to n g
sum_le zero f g h = omega arith
sum_le (suc n) f g h = omega (arith, sum_le n f g (λ x l. h x (omega arith)), h n (omega arith))

pub sum_same : (n : ℕ) (f g : ℕ → ℕ) → ((x : ℕ) → x < n → f x ≡ g x) → sum_to n f ≡ sum_to n g
sum_same zero f g h = refl
sum_same (suc n) f g h = omega (arith, sum_same n f g (λ x l. h x (omega arith)), h n (omega arith))

-- one becomes less, and no other changes
pub sum_drop : (n x : ℕ) (f g : ℕ → ℕ) → x < n → suc (g x) ≤ f x → ((y : ℕ) → y < n → y ≢ x → g y ≡ f y) → suc (sum_to n g) ≤ sum_to n f
sum_drop zero x f g l d same = absurd (omega (arith, l))
sum_drop (suc n) x f g l d same = elim (below_suc x n l) [
  | inl h ↦ omega (arith, sum_drop n x f g h d (λ y m. same y (omega arith)), same n (omega arith) (λ e. omega (arith, e, h)))
  | inr h ↦
      let rest : sum_to n g ≡ sum_to n f = sum_same n g f (λ y m. same y (omega arith) (λ e. omega (arith, e, h, m))) in
      let last : suc (g n) ≤ f n = subst (λ z. suc (g z) ≤ f z) h d in
      omega (arith, rest, last)
]

pub sum_part : (n x : ℕ) (f : ℕ → ℕ) → x < n → f x ≤ sum_to n f
sum_part zero x f l = absurd (omega (arith, l))
sum_part (suc n) x f l = elim (below_suc x n l) [
  | inl h ↦ omega (arith, sum_part n x f h)
  | inr h ↦
      let last : f x ≡ f n = ap f h in
      omega (arith, last)
]

pub sum_four : (n : ℕ) (a b c d : ℕ → ℕ) → ((x : ℕ) → x < n → a x + b x ≤ c x + d x) → sum_to n a + sum_to n b ≤ sum_to n c + sum_to n d
sum_four zero a b c d h = omega arith
sum_four (suc n) a b c d h = omega (arith, sum_four n a b c d (λ x l. h x (omega arith)), h n (omega arith))

pub greatest_is : (n x : ℕ) (f : ℕ → ℕ) → x < n → f x ≤ greatest_to n f
greatest_is zero x f l = absurd (omega (arith, l))
greatest_is (suc n) x f l = elim (below_suc x n l) [
  | inl h ↦ omega (arith, greatest_is n x f h)
  | inr h ↦
      let last : f x ≡ f n = ap f h in
      omega (arith, last)
]

pub all_is : (n x : ℕ) (f : ℕ → Bool) → all_to n f ≡ true → x < n → f x ≡ true
all_is zero x f e l = absurd (omega (arith, l))
all_is (suc n) x f e l =
    let parts = and_parts (all_to n f) (f n) e in
    elim (below_suc x n l) [ inl h ↦ all_is n x f parts.0 h | inr h ↦ subst (λ z. f z ≡ true) (sym h) parts.1 ]

pub all_from : (n : ℕ) (f : ℕ → Bool) → ((x : ℕ) → x < n → f x ≡ true) → all_to n f ≡ true
all_from zero f h = refl
all_from (suc n) f h = and_from (all_to n f) (f n) (all_from n f (λ x l. h x (omega arith))) (h n (omega arith))

pub all_not : (n : ℕ) (f : ℕ → Bool) → all_to n f ≡ false → (x : ℕ) × (x < n) × (f x ≡ false)
all_not zero f e = cc
all_not (suc n) f e = elim (and_cases (all_to n f) (f n) e) [
  | inl h ↦
      let k = all_not n f h in
      (k.0, omega (arith, k.1), k.2)
  | inr h ↦ (n, omega arith, h)
]

or_left : (a b : Bool) → a ≡ true → (a || b) ≡ true
or_left true b e = refl
or_left false b e = cc

or_right : (a b : Bool) → b ≡ true → (a || b) ≡ true
or_right true b e = refl
or_right false b e = e

pub any_is : (n x : ℕ) (f : ℕ → Bool) → x < n → f x ≡ true → any_to n f ≡ true
any_is zero x f l e = absurd (omega (arith, l))
any_is (suc n) x f l e = elim (below_suc x n l) [
  | inl h ↦ or_left (any_to n f) (f n) (any_is n x f h e)
  | inr h ↦ or_right (any_to n f) (f n) (subst (λ z. f z ≡ true) h e)
]

-- n messages, of which each two are apart by g, come in w intervals
pub up_is : (n g w : ℕ) → 1 ≤ g → n * g ≤ w + g - 1 → n ≤ up w g
up_is n g w l h = le-div n (w + g - 1) g l h

pub multiple : (t n : ℕ) → t % n ≡ 0 → t / n * n ≡ t
multiple t n e = omega (arith, div-add-mod' t n, e)

-- two multiples of n are apart by n
pub multiples_apart : (a b n : ℕ) → a % n ≡ 0 → b % n ≡ 0 → a < b → a + n ≤ b
multiples_apart a b n e f l = elim (cases_lt (a / n) (b / n)) [
  | inl h ↦ omega (arith, multiple a n e, multiple b n f, mul-le (suc (a / n)) n (b / n) n h (omega arith))
  | inr h ↦ absurd (omega (arith, multiple a n e, multiple b n f, mul-le (b / n) n (a / n) n h (omega arith), l))
]
