-- The numbers of a scalar as numbers of 128 bits.
use Rattle.std.proofs.Common.{◌≡◌, ℕ, ◌^◌, ◌<◌, ℤ, pos, negsuc, ◌-ℤ◌, ◌*ℤ◌, neg_ℤ, ap, ◌∙◌, ◌≤◌, FitsSigned, to_z, of_z, bit_or, bit_xor, unsigned_abs, IsTrue, arith}
use Rattle.std.specs.Int.{w128}
use Rattle.std.proofs.lemmas.Int.{ints, to_z_pos, to_z-of_z, fits_signed_mul}
use Rattle.std.proofs.lemmas.Nat.{or_lt, xor_lt}
use Rattle.std.proofs.lemmas.Bool.Decides.{nat_tests}
use Rattle.tower_types.specs.declared.scalar.Scalar.{Scalar}
use Rattle.tower_types.specs.declared.scalar.Scalar.TheVariants as scalar
use Rattle.tower_types.specs.Value.{fits_scalar}
use Rattle.tower_types.specs.Arithmetic.{is_unsigned}

-- a number of an unsigned scalar has 64 bits
below_u64 : (t : Scalar) (n : ℕ) → IsTrue (is_unsigned t) → IsTrue (fits_scalar t (pos n)) → n < 2 ^ 64
below_u64 scalar.U8 n u f = grind (arith, nat_tests)
below_u64 scalar.U16 n u f = grind (arith, nat_tests)
below_u64 scalar.U32 n u f = grind (arith, nat_tests)
below_u64 scalar.U64 n u f = grind (arith, nat_tests)
below_u64 scalar.Bool n u f = absurd (grind arith)
below_u64 scalar.I8 n u f = absurd (grind arith)
below_u64 scalar.I16 n u f = absurd (grind arith)
below_u64 scalar.I32 n u f = absurd (grind arith)
below_u64 scalar.I64 n u f = absurd (grind arith)
below_u64 (scalar.Ix k) n u f = absurd (grind arith)

not_below_zero : (t : Scalar) (n : ℕ) → IsTrue (is_unsigned t) → IsTrue (fits_scalar t (negsuc n)) → ⊥
not_below_zero scalar.U8 n u f = grind arith
not_below_zero scalar.U16 n u f = grind arith
not_below_zero scalar.U32 n u f = grind arith
not_below_zero scalar.U64 n u f = grind arith
not_below_zero scalar.Bool n u f = grind arith
not_below_zero scalar.I8 n u f = grind arith
not_below_zero scalar.I16 n u f = grind arith
not_below_zero scalar.I32 n u f = grind arith
not_below_zero scalar.I64 n u f = grind arith
not_below_zero (scalar.Ix k) n u f = grind arith

pub or_is : (t : Scalar) (a b : ℤ) → IsTrue (is_unsigned t) → IsTrue (fits_scalar t a) → IsTrue (fits_scalar t b) → to_z w128 (bit_or (of_z w128 a) (of_z w128 b)) ≡ pos (bit_or (unsigned_abs a) (unsigned_abs b))
or_is t (pos m) (pos n) u f g =
    let bound = or_lt 64 m n (below_u64 t m u f) (below_u64 t n u g) in
    to_z_pos w128 (bit_or m n) (omega (arith, bound))
or_is t (negsuc m) b u f g = absurd (not_below_zero t m u f)
or_is t (pos m) (negsuc n) u f g = absurd (not_below_zero t n u g)

pub xor_is : (t : Scalar) (a b : ℤ) → IsTrue (is_unsigned t) → IsTrue (fits_scalar t a) → IsTrue (fits_scalar t b) → to_z w128 (bit_xor (of_z w128 a) (of_z w128 b)) ≡ pos (bit_xor (unsigned_abs a) (unsigned_abs b))
xor_is t (pos m) (pos n) u f g =
    let bound = xor_lt 64 m n (below_u64 t m u f) (below_u64 t n u g) in
    to_z_pos w128 (bit_xor m n) (omega (arith, bound))
xor_is t (negsuc m) b u f g = absurd (not_below_zero t m u f)
xor_is t (pos m) (negsuc n) u f g = absurd (not_below_zero t n u g)

pub zero-sub : (a : ℤ) → pos 0 -ℤ a ≡ neg_ℤ a
zero-sub a = omega (arith, ints)

-- a product of two numbers of 63 bits and a sign
pub product_is : (a b : ℤ) → FitsSigned w128 a → FitsSigned w128 b → unsigned_abs a ≤ 2 ^ 63 → unsigned_abs b ≤ 2 ^ 63 → to_z w128 (of_z w128 (to_z w128 (of_z w128 a) *ℤ to_z w128 (of_z w128 b))) ≡ a *ℤ b
product_is a b f g small other =
    let fit = fits_signed_mul w128 a b (2 ^ 63) (2 ^ 63) small other (omega arith) in
    ap (λ x. to_z w128 (of_z w128 (x *ℤ to_z w128 (of_z w128 b)))) (to_z-of_z w128 a f) ∙ ap (λ y. to_z w128 (of_z w128 (a *ℤ y))) (to_z-of_z w128 b g) ∙ to_z-of_z w128 (a *ℤ b) fit
