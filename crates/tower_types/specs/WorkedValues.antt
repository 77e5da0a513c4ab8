-- Worked values of the operations, and of types with their values.
use Rattle.std.specs.Prelude.{◌≡◌, [], ◌∷◌, ℤ, pos, negsuc, true, false}
use Rattle.tower_types.specs.declared.scalar.Scalar.TheVariants as is
use Rattle.tower_types.specs.declared.scalar.BinOp.TheVariants as op
use Rattle.tower_types.specs.declared.scalar.UnOp.TheVariants as un
use Rattle.tower_types.specs.Arithmetic.{binary_of, unary_of, wrap_to}
use Rattle.tower_types.specs.Ty.{Records, Shape, scalar, array, rec, shape_of, words, depth}
use Rattle.tower_types.specs.Value.{Value, word, parts, values_of, zero_of, flat, value_depth, fits, value_from}

pub record WorkedArithmetic : Type 0 where
  pub sum_wraps : binary_of op.Add is.U8 (pos 255) (pos 1) ≡ pos 0
  pub least_by_minus_one : binary_of op.Div is.I8 (negsuc 127) (negsuc 0) ≡ negsuc 127
  pub least_modulo_minus_one : binary_of op.Rem is.I8 (negsuc 127) (negsuc 0) ≡ pos 0
  pub by_zero : binary_of op.Div is.U8 (pos 7) (pos 0) ≡ pos 0
  pub modulo_zero : binary_of op.Rem is.U8 (pos 7) (pos 0) ≡ pos 7
  pub toward_zero : binary_of op.Div is.I8 (negsuc 6) (pos 2) ≡ negsuc 2
  pub rest_of_negative : binary_of op.Rem is.I8 (negsuc 6) (pos 2) ≡ negsuc 0
  pub index_wraps : binary_of op.Add (is.Ix 4) (pos 3) (pos 1) ≡ pos 0
  pub index_wraps_down : binary_of op.Sub (is.Ix 4) (pos 0) (pos 1) ≡ pos 3
  pub negative_wraps : unary_of un.Neg is.U8 (pos 1) ≡ pos 255
  pub cast_wraps : wrap_to is.I8 (pos 200) ≡ negsuc 55
  pub greatest_squared : binary_of op.Mul is.U64 (pos 18446744073709551615) (pos 18446744073709551615) ≡ pos 1
  pub greatest_doubled : binary_of op.Mul is.I64 (pos 9223372036854775807) (pos 2) ≡ negsuc 1
  pub bits : binary_of op.And is.U8 (pos 12) (pos 10) ≡ pos 8
  pub less : binary_of op.Less is.I8 (negsuc 0) (pos 0) ≡ pos 1
  pub either : binary_of op.Either is.Bool (pos 0) (pos 1) ≡ pos 1

-- a record of an i32 and a u8, and an array of three of them
abbrev pub fixes : Records
fixes = (([], scalar is.I32) ∷ ([], scalar is.U8) ∷ []) ∷ []

abbrev pub fix : Shape
fix = shape_of fixes (rec 0)

abbrev pub three : Shape
three = shape_of fixes (array 3 (rec 0))

abbrev pub pair : ℤ → ℤ → Value
pair m n = parts (values_of (word m ∷ word n ∷ []))

pub record WorkedTypes : Type 0 where
  pub width : words three ≡ 6
  pub deep : depth three ≡ 3
  pub zeros : flat (zero_of three) ≡ pos 0 ∷ pos 0 ∷ pos 0 ∷ pos 0 ∷ pos 0 ∷ pos 0 ∷ []
  pub zero_fits : fits three (zero_of three) ≡ true
  pub made : value_from fix (negsuc 4 ∷ pos 7 ∷ []) ≡ pair (negsuc 4) (pos 7)
  pub in_range : fits fix (pair (negsuc 4) (pos 255)) ≡ true
  pub too_great : fits fix (pair (negsuc 4) (pos 256)) ≡ false
  pub too_short : fits fix (parts (values_of (word (pos 0) ∷ []))) ≡ false
  pub empty_is_one_deep : value_depth (parts (values_of [])) ≡ 1
