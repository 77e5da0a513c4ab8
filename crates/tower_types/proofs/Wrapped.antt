-- The operations stay within the ranges of their scalars.
use Rattle.std.proofs.Common.{◌≡◌, ℕ, ◌+◌, ◌-◌, ◌%◌, ◌^◌, ◌<◌, ℤ, pos, negsuc, ◌-ℤ◌, neg_ℤ, int_lt, int_le, ◌&&◌, Bool, true, false, cond, IsTrue, refl, subst, sym, arith}
use Rattle.std.specs.Int.{int_rem_euclid}
use Rattle.std.proofs.lemmas.Int.{ints}
use Rattle.std.proofs.lemmas.Bool.Decides.{nat_tests}
use Rattle.tower_types.specs.declared.scalar.Scalar.{Scalar}
use Rattle.tower_types.specs.declared.scalar.Scalar.TheVariants as scalar
use Rattle.tower_types.specs.declared.scalar.BinOp.{BinOp}
use Rattle.tower_types.specs.declared.scalar.BinOp.TheVariants as op
use Rattle.tower_types.specs.declared.scalar.UnOp.{UnOp}
use Rattle.tower_types.specs.declared.scalar.UnOp.TheVariants as un
use Rattle.tower_types.specs.Value.{fits_scalar, has_numbers}
use Rattle.tower_types.specs.Arithmetic.{wrap_signed, wrap_to, truth, binary_of, unary_of, binary_scalar, applies, applies_one, is_number, is_unsigned}

-- a number modulo k
modulo : (k : ℕ) (n : ℤ) → 0 < k → (m : ℕ) × (int_rem_euclid n (pos k) ≡ pos m) × (m < k)
modulo k (pos a) h = (a % k, refl, omega arith)
modulo k (negsuc a) h = (k - 1 - a % k, refl, omega arith)

unsigned_fits : (k : ℕ) (n : ℤ) → 0 < k → IsTrue (int_le (pos 0) (int_rem_euclid n (pos k)) && int_lt (int_rem_euclid n (pos k)) (pos k))
unsigned_fits k n h =
    let m = modulo k n h in
    let P : ℤ → Type 0 = λ z. IsTrue (int_le (pos 0) z && int_lt z (pos k)) in
    let small : m.0 < k = m.2 in
    subst P (sym m.1) (grind (arith, nat_tests))

half_fits : (half m : ℕ) → m < half + half → IsTrue (int_le (neg_ℤ (pos half)) (cond (int_lt (pos m) (pos half)) (pos m) (pos m -ℤ pos (half + half))) && int_lt (cond (int_lt (pos m) (pos half)) (pos m) (pos m -ℤ pos (half + half))) (pos half))
half_fits half m h = grind (arith, ints, nat_tests)

signed_fits : (half : ℕ) (n : ℤ) → 0 < half → IsTrue (int_le (neg_ℤ (pos half)) (wrap_signed (pos half) n) && int_lt (wrap_signed (pos half) n) (pos half))
signed_fits half n h =
    let m = modulo (half + half) n (omega arith) in
    let r : ℤ → ℤ = λ z. cond (int_lt z (pos half)) z (z -ℤ pos (half + half)) in
    let P : ℤ → Type 0 = λ z. IsTrue (int_le (neg_ℤ (pos half)) (r z) && int_lt (r z) (pos half)) in
    subst P (sym m.1) (half_fits half m.0 m.2)

pub wrap_to-fits : (t : Scalar) (n : ℤ) → IsTrue (is_number t) → IsTrue (has_numbers t) → IsTrue (fits_scalar t (wrap_to t n))
wrap_to-fits scalar.Bool n number some = absurd (grind arith)
wrap_to-fits scalar.U8 n number some = unsigned_fits (2 ^ 8) n (omega arith)
wrap_to-fits scalar.U16 n number some = unsigned_fits (2 ^ 16) n (omega arith)
wrap_to-fits scalar.U32 n number some = unsigned_fits (2 ^ 32) n (omega arith)
wrap_to-fits scalar.U64 n number some = unsigned_fits (2 ^ 64) n (omega arith)
wrap_to-fits scalar.I8 n number some = signed_fits (2 ^ 7) n (omega arith)
wrap_to-fits scalar.I16 n number some = signed_fits (2 ^ 15) n (omega arith)
wrap_to-fits scalar.I32 n number some = signed_fits (2 ^ 31) n (omega arith)
wrap_to-fits scalar.I64 n number some = signed_fits (2 ^ 63) n (omega arith)
wrap_to-fits (scalar.Ix k) n number some = unsigned_fits k n (grind (arith, nat_tests))

truth-fits : (b : Bool) → IsTrue (fits_scalar scalar.Bool (truth b))
truth-fits true = refl
truth-fits false = refl

-- a scalar that a number fits has numbers
pub has_numbers-from : (t : Scalar) (n : ℤ) → IsTrue (fits_scalar t n) → IsTrue (has_numbers t)
has_numbers-from scalar.Bool n h = refl
has_numbers-from scalar.U8 n h = refl
has_numbers-from scalar.U16 n h = refl
has_numbers-from scalar.U32 n h = refl
has_numbers-from scalar.U64 n h = refl
has_numbers-from scalar.I8 n h = refl
has_numbers-from scalar.I16 n h = refl
has_numbers-from scalar.I32 n h = refl
has_numbers-from scalar.I64 n h = refl
has_numbers-from (scalar.Ix k) (pos n) h = grind (arith, nat_tests)
has_numbers-from (scalar.Ix k) (negsuc n) h = absurd (grind arith)

is_number-from : (t : Scalar) → IsTrue (is_unsigned t) → IsTrue (is_number t)
is_number-from scalar.U8 h = refl
is_number-from scalar.U16 h = refl
is_number-from scalar.U32 h = refl
is_number-from scalar.U64 h = refl
is_number-from _ h = absurd (grind arith)

pub binary_of-fits : (o : BinOp) (t : Scalar) (a b : ℤ) → IsTrue (applies o t) → IsTrue (fits_scalar t a) → IsTrue (fits_scalar (binary_scalar o t) (binary_of o t a b))
binary_of-fits op.Add t a b h f = wrap_to-fits t _ h (has_numbers-from t a f)
binary_of-fits op.Sub t a b h f = wrap_to-fits t _ h (has_numbers-from t a f)
binary_of-fits op.Mul t a b h f = wrap_to-fits t _ h (has_numbers-from t a f)
binary_of-fits op.Div t a b h f = wrap_to-fits t _ h (has_numbers-from t a f)
binary_of-fits op.Rem t a b h f = wrap_to-fits t _ h (has_numbers-from t a f)
binary_of-fits op.And t a b h f = wrap_to-fits t _ (is_number-from t h) (has_numbers-from t a f)
binary_of-fits op.Or t a b h f = wrap_to-fits t _ (is_number-from t h) (has_numbers-from t a f)
binary_of-fits op.Xor t a b h f = wrap_to-fits t _ (is_number-from t h) (has_numbers-from t a f)
binary_of-fits op.Eq t a b h f = truth-fits _
binary_of-fits op.Less t a b h f = truth-fits _
binary_of-fits op.LessEq t a b h f = truth-fits _
binary_of-fits op.Both t a b h f = truth-fits _
binary_of-fits op.Either t a b h f = truth-fits _

pub unary_of-fits : (o : UnOp) (t : Scalar) (a : ℤ) → IsTrue (applies_one o t) → IsTrue (fits_scalar t a) → IsTrue (fits_scalar t (unary_of o t a))
unary_of-fits un.Not scalar.Bool a h f = truth-fits _
unary_of-fits un.Not _ a h f = absurd (grind arith)
unary_of-fits un.Neg t a h f = wrap_to-fits t _ h (has_numbers-from t a f)
