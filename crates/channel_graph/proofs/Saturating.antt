-- Sums and products that stop at a limit.
use Rattle.std.proofs.Common.{◌≡◌, ℕ, ◌+◌, ◌*◌, min, max, zero, suc, inl, inr, arith, ap, ◌∙◌}
use Rattle.std.proofs.Common.{◌-◌, ◌^◌}
use Rattle.tower_types.specs.Records.{saturated}
use Rattle.std.proofs.Math.Nat.{le-mul_of_pos_right, mul_comm}
use Rattle.std.proofs.lemmas.Bool.{cases_lt}

-- a product of a number that was cut at m
pub min-mul : (m n k : ℕ) → min m (min m n * k) ≡ min m (k * n)
min-mul m n zero = grind (arith, mul_comm)
min-mul m n (suc k) = elim (cases_lt m n) [
  | inl h ↦ let e : min m n ≡ m = omega arith in rw e (omega (arith, le-mul_of_pos_right {m = suc k} m (omega arith), le-mul_of_pos_right {m = suc k} n (omega arith), mul_comm n (suc k)))
  | inr h ↦ let e : min m n ≡ n = omega arith in rw e (omega (arith, mul_comm n (suc k)))
]

-- one more summand, each side cut
pub saturating_step : (total more out before here after : ℕ) → total ≡ saturated before → more ≡ saturated here → out ≡ min (total + more) (2 ^ 64 - 1) → after ≡ before + here → out ≡ saturated after
saturating_step total more out before here after t m o a = omega arith

pub saturated-max : (a b x y out : ℕ) → x ≡ saturated a → y ≡ saturated b → out ≡ max x y → out ≡ saturated (max a b)
saturated-max a b x y out p q r = omega arith

-- so many turns of a body and 16 more, and 16 more at the end
pub saturated-turns : (turns n body turn all out : ℕ) → body ≡ saturated n → turn ≡ min (body + 16) (2 ^ 64 - 1) → all ≡ min (turn * turns) (2 ^ 64 - 1) → out ≡ min (all + 16) (2 ^ 64 - 1) → out ≡ saturated (16 + turns * (n + 16))
saturated-turns turns n body turn all out b t a o =
    let once : turn ≡ min (2 ^ 64 - 1) (n + 16) = omega arith in
    let product : min (2 ^ 64 - 1) (turn * turns) ≡ min (2 ^ 64 - 1) (turns * (n + 16)) = ap (λ x. min (2 ^ 64 - 1) (x * turns)) once ∙ min-mul (2 ^ 64 - 1) (n + 16) turns in
    omega (arith, product, a, o)

-- so many messages, each with 32 more, and 32 more at the end
pub saturated-held : (bound n total message all out : ℕ) → total ≡ saturated n → message ≡ min (total + 32) (2 ^ 64 - 1) → all ≡ min (message * bound) (2 ^ 64 - 1) → out ≡ min (all + 32) (2 ^ 64 - 1) → out ≡ saturated (32 + bound * (32 + n))
saturated-held bound n total message all out t m a o =
    let once : message ≡ min (2 ^ 64 - 1) (32 + n) = omega arith in
    let product : min (2 ^ 64 - 1) (message * bound) ≡ min (2 ^ 64 - 1) (bound * (32 + n)) = ap (λ x. min (2 ^ 64 - 1) (x * bound)) once ∙ min-mul (2 ^ 64 - 1) (32 + n) bound in
    omega (arith, product, a, o)
