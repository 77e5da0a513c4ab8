-- The laws of the operations and of values, put together.
use Rattle.std.proofs.Common.{◌≡◌, ◌≢◌, ℕ, zero, suc, ◌+◌, ◌^◌, ◌<◌, ℤ, pos, negsuc, ◌+ℤ◌, ◌-ℤ◌, ◌*ℤ◌, int_lt, Bool, true, false, cond, IsTrue, unsigned_abs, refl, ap, sym, ◌∙◌, arith}
use Rattle.std.specs.Int.{int_rem_euclid, int_div_euclid}
use Rattle.std.proofs.lemmas.Int.{ints, quot-rem, rem_below}
use Rattle.std.proofs.Math.IntN.{suc_ℤ, suc_ℤ-*ℤ}
use Rattle.std.proofs.lemmas.Bool.Decides.{nat_tests}
use Rattle.tower_types.specs.declared.scalar.Scalar.{Scalar}
use Rattle.tower_types.specs.declared.scalar.Scalar.TheVariants as scalar
use Rattle.tower_types.specs.Value.{value_from, has_numbers}
use Rattle.tower_types.specs.Arithmetic.{wrap_signed, wrap_to, quotient, remainder, is_number}
use Rattle.tower_types.specs.Laws.{count_of, Wraps, Divides, KeepsRanges, HasNumbers, HasZero}
use Rattle.tower_types.specs.WorkedValues.{WorkedArithmetic, WorkedTypes}
use Rattle.tower_types.proofs.Wrapped.{wrap_to-fits, binary_of-fits, unary_of-fits}
use Rattle.tower_types.proofs.Flat.{length-flat, fit_words-flat, zero_of-fits, flat-zero_of}
use Rattle.tower_types.proofs.Made.{fits-value_from, flat-whole, flat-unique}

pub worked_arithmetic : WorkedArithmetic
worked_arithmetic = record { sum_wraps = refl; least_by_minus_one = refl; least_modulo_minus_one = refl; by_zero = refl; modulo_zero = refl; toward_zero = refl; rest_of_negative = refl; index_wraps = refl; index_wraps_down = refl; negative_wraps = refl; cast_wraps = refl; greatest_squared = refl; greatest_doubled = refl; bits = refl; less = refl; either = refl }

pub worked_types : WorkedTypes
worked_types = record { width = refl; deep = refl; zeros = refl; zero_fits = refl; made = refl; in_range = refl; too_great = refl; too_short = refl; empty_is_one_deep = refl }

-- n is a multiple of k, and its remainder
euclid : (k : ℕ) (n : ℤ) → 0 < k → n ≡ int_div_euclid n (pos k) *ℤ pos k +ℤ int_rem_euclid n (pos k)
euclid k (pos a) h = omega (arith, ints)
euclid k (negsuc a) h = omega (arith, ints)

cancelled : (m r d : ℤ) → m +ℤ r ≡ (m +ℤ d) +ℤ (r -ℤ d)
cancelled m r d = omega (arith, ints)

one_more : (q d r : ℤ) → q *ℤ d +ℤ r ≡ suc_ℤ q *ℤ d +ℤ (r -ℤ d)
one_more q d r = cancelled (q *ℤ d) r d ∙ ap (λ m. m +ℤ (r -ℤ d)) (sym (suc_ℤ-*ℤ q d))

-- where the remainder is not below half, one multiple more is taken
signed_euclid : (half : ℕ) (n : ℤ) → 0 < half → (k : ℤ) × (n ≡ k *ℤ pos (half + half) +ℤ wrap_signed (pos half) n)
signed_euclid half n h = signed (int_lt (int_rem_euclid n (pos (half + half))) (pos half)) refl
  where
    signed : (b : Bool) → int_lt (int_rem_euclid n (pos (half + half))) (pos half) ≡ b → (k : ℤ) × (n ≡ k *ℤ pos (half + half) +ℤ wrap_signed (pos half) n)
    signed true e =
        let q = int_div_euclid n (pos (half + half)) in
        let r = int_rem_euclid n (pos (half + half)) in
        (q, euclid (half + half) n (omega arith) ∙ ap (λ b. q *ℤ pos (half + half) +ℤ cond b r (r -ℤ pos (half + half))) (sym e))
    signed false e =
        let q = int_div_euclid n (pos (half + half)) in
        let r = int_rem_euclid n (pos (half + half)) in
        (suc_ℤ q, euclid (half + half) n (omega arith) ∙ one_more q (pos (half + half)) r ∙ ap (λ b. suc_ℤ q *ℤ pos (half + half) +ℤ cond b r (r -ℤ pos (half + half))) (sym e))

pub by_multiples : (t : Scalar) (n : ℤ) → IsTrue (is_number t) → IsTrue (has_numbers t) → (k : ℤ) × (n ≡ k *ℤ count_of t +ℤ wrap_to t n)
by_multiples scalar.Bool n number some = absurd (grind arith)
by_multiples scalar.U8 n number some = (int_div_euclid n (pos (2 ^ 8)), euclid (2 ^ 8) n (omega arith))
by_multiples scalar.U16 n number some = (int_div_euclid n (pos (2 ^ 16)), euclid (2 ^ 16) n (omega arith))
by_multiples scalar.U32 n number some = (int_div_euclid n (pos (2 ^ 32)), euclid (2 ^ 32) n (omega arith))
by_multiples scalar.U64 n number some = (int_div_euclid n (pos (2 ^ 64)), euclid (2 ^ 64) n (omega arith))
by_multiples scalar.I8 n number some = signed_euclid (2 ^ 7) n (omega arith)
by_multiples scalar.I16 n number some = signed_euclid (2 ^ 15) n (omega arith)
by_multiples scalar.I32 n number some = signed_euclid (2 ^ 31) n (omega arith)
by_multiples scalar.I64 n number some = signed_euclid (2 ^ 63) n (omega arith)
by_multiples (scalar.Ix k) n number some =
    let all_k : pos k ≡ count_of (scalar.Ix k) = omega (arith, ints) in
    let some_k : 0 < k = grind (arith, nat_tests) in
    (int_div_euclid n (pos k), euclid k n some_k ∙ ap (λ d. int_div_euclid n (pos k) *ℤ d +ℤ int_rem_euclid n (pos k)) all_k)

pub wraps : Wraps
wraps = record { in_range = wrap_to-fits; by_multiples = by_multiples }

quotient_joined : (a b : ℤ) → quotient a b *ℤ b +ℤ remainder a b ≡ a
quotient_joined a (pos zero) = omega (arith, ints)
quotient_joined a (pos (suc b)) = quot-rem a (pos (suc b))
quotient_joined a (negsuc b) = quot-rem a (negsuc b)

remainder_smaller : (a b : ℤ) → b ≢ pos 0 → unsigned_abs (remainder a b) < unsigned_abs b
remainder_smaller a (pos zero) h = absurd (h refl)
remainder_smaller a (pos (suc b)) h = rem_below a (pos (suc b)) (omega arith)
remainder_smaller a (negsuc b) h = rem_below a (negsuc b) (omega arith)

pub divides : Divides
divides = record { joined = quotient_joined; smaller = remainder_smaller }

pub keeps_ranges : KeepsRanges
keeps_ranges = record { binary = λ o t a b has first second. binary_of-fits o t a b has first; unary = unary_of-fits }

pub values_have_numbers : HasNumbers
values_have_numbers = record {
  count = length-flat;
  fitting = fit_words-flat;
  found = λ s ns h. (value_from s ns, fits-value_from s ns h, flat-whole s ns h);
  unique = flat-unique;
}

pub zero_values : HasZero
zero_values = record { fitting = zero_of-fits; zeros = flat-zero_of }
