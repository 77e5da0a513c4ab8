-- The operations: each is done on whole numbers, and its result is wrapped once.
use Rattle.std.specs.Prelude.{zero, ◌^◌, ℤ, pos, neg_ℤ, ◌+ℤ◌, ◌-ℤ◌, ◌*ℤ◌, int_lt, int_le, int_div, int_rem, Bool, true, false, cond, ◌&&◌, ◌||◌, not, bit_and, bit_or, bit_xor, unsigned_abs}
use Rattle.std.specs.Int.{int_rem_euclid}
use Rattle.std.specs.Ordering.{int_eq}
use Rattle.tower_types.specs.declared.scalar.Scalar.{Scalar}
use Rattle.tower_types.specs.declared.scalar.Scalar.TheVariants as scalar
use Rattle.tower_types.specs.declared.scalar.BinOp.{BinOp}
use Rattle.tower_types.specs.declared.scalar.BinOp.TheVariants as op
use Rattle.tower_types.specs.declared.scalar.UnOp.{UnOp}
use Rattle.tower_types.specs.declared.scalar.UnOp.TheVariants as un

-- the number from -half to below half that differs from n by a multiple of twice half: two's complement
abbrev pub wrap_signed : ℤ → ℤ → ℤ
wrap_signed half n =
    let r = int_rem_euclid n (half +ℤ half) in
    cond (int_lt r half) r (r -ℤ (half +ℤ half))

-- a number wrapped to a scalar; a truth is never wrapped
abbrev pub wrap_to : Scalar → ℤ → ℤ
wrap_to scalar.Bool n = n
wrap_to scalar.U8 n = int_rem_euclid n (pos (2 ^ 8))
wrap_to scalar.U16 n = int_rem_euclid n (pos (2 ^ 16))
wrap_to scalar.U32 n = int_rem_euclid n (pos (2 ^ 32))
wrap_to scalar.U64 n = int_rem_euclid n (pos (2 ^ 64))
wrap_to scalar.I8 n = wrap_signed (pos (2 ^ 7)) n
wrap_to scalar.I16 n = wrap_signed (pos (2 ^ 15)) n
wrap_to scalar.I32 n = wrap_signed (pos (2 ^ 31)) n
wrap_to scalar.I64 n = wrap_signed (pos (2 ^ 63)) n
wrap_to (scalar.Ix k) n = int_rem_euclid n (pos k)

abbrev pub truth : Bool → ℤ
truth b = cond b (pos 1) (pos 0)

abbrev pub is_true : ℤ → Bool
is_true (pos zero) = false
is_true _ = true

-- toward zero, and 0 at a zero divisor
abbrev pub quotient : ℤ → ℤ → ℤ
quotient a (pos zero) = pos 0
quotient a b = int_div a b

-- what the quotient leaves of a, and a at a zero divisor
abbrev pub remainder : ℤ → ℤ → ℤ
remainder a (pos zero) = a
remainder a b = int_rem a b

abbrev pub binary_of : BinOp → Scalar → ℤ → ℤ → ℤ
binary_of op.Add t a b = wrap_to t (a +ℤ b)
binary_of op.Sub t a b = wrap_to t (a -ℤ b)
binary_of op.Mul t a b = wrap_to t (a *ℤ b)
binary_of op.Div t a b = wrap_to t (quotient a b)
binary_of op.Rem t a b = wrap_to t (remainder a b)
binary_of op.And t a b = wrap_to t (pos (bit_and (unsigned_abs a) (unsigned_abs b)))
binary_of op.Or t a b = wrap_to t (pos (bit_or (unsigned_abs a) (unsigned_abs b)))
binary_of op.Xor t a b = wrap_to t (pos (bit_xor (unsigned_abs a) (unsigned_abs b)))
binary_of op.Eq t a b = truth (int_eq a b)
binary_of op.Less t a b = truth (int_lt a b)
binary_of op.LessEq t a b = truth (int_le a b)
binary_of op.Both t a b = truth (is_true a && is_true b)
binary_of op.Either t a b = truth (is_true a || is_true b)

abbrev pub unary_of : UnOp → Scalar → ℤ → ℤ
unary_of un.Not t a = truth (not (is_true a))
unary_of un.Neg t a = wrap_to t (neg_ℤ a)

-- any scalar but a truth is a number
abbrev pub is_number : Scalar → Bool
is_number scalar.Bool = false
is_number _ = true

abbrev pub is_unsigned : Scalar → Bool
is_unsigned scalar.U8 = true
is_unsigned scalar.U16 = true
is_unsigned scalar.U32 = true
is_unsigned scalar.U64 = true
is_unsigned _ = false

-- the operations that a scalar has
abbrev pub applies : BinOp → Scalar → Bool
applies op.And t = is_unsigned t
applies op.Or t = is_unsigned t
applies op.Xor t = is_unsigned t
applies op.Eq t = true
applies op.Both t = not (is_number t)
applies op.Either t = not (is_number t)
applies _ t = is_number t

abbrev pub applies_one : UnOp → Scalar → Bool
applies_one un.Not t = not (is_number t)
applies_one un.Neg t = is_number t

-- the scalar of the result: a truth where two numbers or truths are compared or joined
abbrev pub binary_scalar : BinOp → Scalar → Scalar
binary_scalar op.Eq t = scalar.Bool
binary_scalar op.Less t = scalar.Bool
binary_scalar op.LessEq t = scalar.Bool
binary_scalar op.Both t = scalar.Bool
binary_scalar op.Either t = scalar.Bool
binary_scalar _ t = t
