-- What may be wanted of a type, and the text of a type, by which a fault shows it.
use Rattle.std.specs.Prelude.{ℕ, List, [], ◌∷◌, codes, slice_index_or, Bool, true, false, ◌==◌, ◌&&◌, Option, Some, None}
use Rattle.tower_types.specs.declared.scalar.Scalar.{Scalar}
use Rattle.tower_types.specs.declared.scalar.Scalar.TheVariants as is
use Rattle.tower_types.specs.declared.scalar.BinOp.{BinOp}
use Rattle.tower_types.specs.declared.scalar.BinOp.TheVariants as op
use Rattle.tower_types.specs.declared.scalar.UnOp.{UnOp}
use Rattle.tower_types.specs.declared.scalar.UnOp.TheVariants as un
use Rattle.tower_types.specs.Ty.{Ty, Name, scalar, array, rec}
use Rattle.tower_types.specs.Arithmetic.{is_number, is_unsigned}
use Rattle.tower_syntax.specs.Form.{Form, atom, row, text}
use Rattle.tower_syntax.specs.Printed.{number_form, scalar_form}
use Rattle.arch_types.specs.declared.fault.Want.{Want}
use Rattle.arch_types.specs.declared.fault.Want.TheVariants as want
use Rattle.arch_types.specs.declared.fault.TypeFault.{TypeFault}
use Rattle.arch_types.specs.declared.fault.TypeFault.TheVariants as fault

-- a type as a file writes it; a record has its name
abbrev pub ty_form : List Name → Ty → Form
ty_form names (scalar s) = scalar_form s
ty_form names (array n t) = row (codes "array") (number_form n ∷ ty_form names t ∷ [])
ty_form names (rec r) = atom (slice_index_or names r [])

abbrev pub type_text : List Name → Ty → List ℕ
type_text names t = text (ty_form names t)

-- whether two types are the same
abbrev pub same_scalar : Scalar → Scalar → Bool
same_scalar is.Bool is.Bool = true
same_scalar is.U8 is.U8 = true
same_scalar is.U16 is.U16 = true
same_scalar is.U32 is.U32 = true
same_scalar is.U64 is.U64 = true
same_scalar is.I8 is.I8 = true
same_scalar is.I16 is.I16 = true
same_scalar is.I32 is.I32 = true
same_scalar is.I64 is.I64 = true
same_scalar (is.Ix n) (is.Ix m) = n == m
same_scalar s t = false

abbrev pub same : Ty → Ty → Bool
same (scalar s) (scalar t) = same_scalar s t
same (array n t) (array m u) = n == m && same t u
same (rec r) (rec q) = r == q
same t u = false

pub data Wanted : Type 0 where
  a_scalar : Wanted
  a_number : Wanted
  an_unsigned : Wanted
  an_array : Wanted
  a_record : Wanted
  exactly : Ty → Wanted

-- the type is what is wanted; any scalar but a truth is a number
abbrev pub fulfils : Wanted → Ty → Bool
fulfils (exactly t) u = same t u
fulfils a_scalar (scalar s) = true
fulfils a_number (scalar s) = is_number s
fulfils an_unsigned (scalar s) = is_unsigned s
fulfils an_array (array n t) = true
fulfils a_record (rec r) = true
fulfils w t = false

-- as a fault shows it
abbrev pub shown : List Name → Wanted → Want
shown names a_scalar = want.Scalar
shown names a_number = want.Number
shown names an_unsigned = want.Unsigned
shown names an_array = want.Array
shown names a_record = want.Record
shown names (exactly t) = want.Exactly (type_text names t)

-- what an operation wants of its first operand
abbrev pub wanted : BinOp → Wanted
wanted op.And = an_unsigned
wanted op.Or = an_unsigned
wanted op.Xor = an_unsigned
wanted op.Eq = a_scalar
wanted op.Both = exactly (scalar is.Bool)
wanted op.Either = exactly (scalar is.Bool)
wanted o = a_number

-- of the second, where the first has this type
abbrev pub wanted_second : BinOp → Ty → Wanted
wanted_second op.Both before = exactly (scalar is.Bool)
wanted_second op.Either before = exactly (scalar is.Bool)
wanted_second o before = exactly before

-- of the only one
abbrev pub wanted_one : UnOp → Wanted
wanted_one un.Not = exactly (scalar is.Bool)
wanted_one un.Neg = a_number

-- no fault where a test holds
abbrev pub unless : Bool → TypeFault → Option TypeFault
unless true f = None
unless false f = Some f

-- what is wrong with a node of this type, where this is wanted of it
abbrev pub misfit : List Name → ℕ → Wanted → Ty → Option TypeFault
misfit names at w t = unless (fulfils w t) (fault.Mismatch at (shown names w) (type_text names t))
