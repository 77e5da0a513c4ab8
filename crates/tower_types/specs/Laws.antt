-- What holds of the operations, and of values with their numbers.
use Rattle.std.specs.Prelude.{◌≡◌, ◌≢◌, ◌<◌, List, length, replicate, ℤ, pos, ◌+ℤ◌, ◌-ℤ◌, ◌*ℤ◌, IsTrue, unsigned_abs}
use Rattle.tower_types.specs.declared.scalar.Scalar.{Scalar}
use Rattle.tower_types.specs.declared.scalar.BinOp.{BinOp}
use Rattle.tower_types.specs.declared.scalar.UnOp.{UnOp}
use Rattle.tower_types.specs.Ty.{Shape, words}
use Rattle.tower_types.specs.Value.{Value, zero_of, flat, least, above, fits_scalar, has_numbers, each_scalar, fits, scalars, fit_words}
use Rattle.tower_types.specs.Arithmetic.{wrap_to, quotient, remainder, binary_of, unary_of, binary_scalar, applies, applies_one, is_number}

-- how many numbers a scalar has
abbrev pub count_of : Scalar → ℤ
count_of t = above t -ℤ least t

-- wrapping gives a number of the scalar that differs by a multiple of how many it has
pub record Wraps : Type 0 where
  pub in_range : (t : Scalar) (n : ℤ) → IsTrue (is_number t) → IsTrue (has_numbers t) → IsTrue (fits_scalar t (wrap_to t n))
  pub by_multiples : (t : Scalar) (n : ℤ) → IsTrue (is_number t) → IsTrue (has_numbers t) → (k : ℤ) × (n ≡ k *ℤ count_of t +ℤ wrap_to t n)

-- the quotient and what it leaves, also of a zero divisor
pub record Divides : Type 0 where
  pub joined : (a b : ℤ) → quotient a b *ℤ b +ℤ remainder a b ≡ a
  pub smaller : (a b : ℤ) → b ≢ pos 0 → unsigned_abs (remainder a b) < unsigned_abs b

-- the result of an operation is a number of its scalar
pub record KeepsRanges : Type 0 where
  pub binary : (o : BinOp) (t : Scalar) (a b : ℤ) → IsTrue (applies o t) → IsTrue (fits_scalar t a) → IsTrue (fits_scalar t b) → IsTrue (fits_scalar (binary_scalar o t) (binary_of o t a b))
  pub unary : (o : UnOp) (t : Scalar) (a : ℤ) → IsTrue (applies_one o t) → IsTrue (fits_scalar t a) → IsTrue (fits_scalar t (unary_of o t a))

-- a value that fits its shape, and its numbers
pub record HasNumbers : Type 0 where
  pub count : (s : Shape) (v : Value) → IsTrue (fits s v) → length (flat v) ≡ words s
  pub fitting : (s : Shape) (v : Value) → IsTrue (fits s v) → IsTrue (fit_words (scalars s) (flat v))
  pub found : (s : Shape) (ns : List ℤ) → IsTrue (fit_words (scalars s) ns) → (v : Value) × IsTrue (fits s v) × (flat v ≡ ns)
  pub unique : (s : Shape) (v w : Value) → IsTrue (fits s v) → IsTrue (fits s w) → flat v ≡ flat w → v ≡ w

-- the zero value, where each scalar has numbers
pub record HasZero : Type 0 where
  pub fitting : (s : Shape) → IsTrue (each_scalar has_numbers s) → IsTrue (fits s (zero_of s))
  pub zeros : (s : Shape) → flat (zero_of s) ≡ replicate (words s) (pos 0)
