-- The words of a file: which names and numbers may stand in it, and the words of scalars and operations.
use Rattle.std.specs.Prelude.{ℕ, ◌^◌, ◌-◌, ◌≤◌, ℤ, pos, neg_ℤ, ◌≤ℤ◌, List, length, codes, Bool, true, false, if◌then◌else◌, ◌==◌, ◌≡◌}
use Rattle.tower_types.specs.declared.scalar.Scalar.{Scalar}
use Rattle.tower_types.specs.declared.scalar.Scalar.TheVariants as scalar
use Rattle.tower_types.specs.declared.scalar.BinOp.{BinOp}
use Rattle.tower_types.specs.declared.scalar.BinOp.TheVariants as op
use Rattle.tower_types.specs.declared.scalar.UnOp.{UnOp}
use Rattle.tower_types.specs.declared.scalar.UnOp.TheVariants as un
use Rattle.tower_syntax.specs.Spelling.{is_name}

-- a name that is short enough
abbrev pub IsName : List ℕ → Type 0
IsName w = (is_name w ≡ true) × (length w ≤ 64)

abbrev pub IsWithin : ℕ → ℕ → ℕ → Type 0
IsWithin low high n = (low ≤ n) × (n ≤ high)

-- the ranges of a file's numbers
abbrev pub IsPriority : ℕ → Type 0
IsPriority n = IsWithin 0 255 n

abbrev pub IsPeriod : ℕ → Type 0
IsPeriod n = IsWithin 1 1000000 n

-- of the n in `(ix n)`, and of a loop's turns
abbrev pub IsCount : ℕ → Type 0
IsCount n = IsWithin 1 65536 n

abbrev pub IsLength : ℕ → Type 0
IsLength n = IsWithin 1 4096 n

abbrev pub IsBound : ℕ → Type 0
IsBound n = IsWithin 0 65536 n

abbrev pub IsDepth : ℕ → Type 0
IsDepth n = IsWithin 1 64 n

abbrev pub IsLiteral : ℤ → Type 0
IsLiteral n = (neg_ℤ (pos (2 ^ 63)) ≤ℤ n) × (n ≤ℤ pos (2 ^ 64 - 1))

-- the head of a file, by its version
abbrev pub tower_word : ℕ → List ℕ
tower_word version = if version == 2 then codes "tower2" else codes "tower"

-- a scalar's word, or the head of its list
abbrev pub scalar_word : Scalar → List ℕ
scalar_word scalar.Bool = codes "bool"
scalar_word scalar.U8 = codes "u8"
scalar_word scalar.U16 = codes "u16"
scalar_word scalar.U32 = codes "u32"
scalar_word scalar.U64 = codes "u64"
scalar_word scalar.I8 = codes "i8"
scalar_word scalar.I16 = codes "i16"
scalar_word scalar.I32 = codes "i32"
scalar_word scalar.I64 = codes "i64"
scalar_word (scalar.Ix n) = codes "ix"

abbrev pub binary_word : BinOp → List ℕ
binary_word op.Add = codes "+"
binary_word op.Sub = codes "-"
binary_word op.Mul = codes "*"
binary_word op.Div = codes "/"
binary_word op.Rem = codes "%"
binary_word op.And = codes "&"
binary_word op.Or = codes "|"
binary_word op.Xor = codes "^"
binary_word op.Eq = codes "="
binary_word op.Less = codes "<"
binary_word op.LessEq = codes "<="
binary_word op.Both = codes "and"
binary_word op.Either = codes "or"

abbrev pub unary_word : UnOp → List ℕ
unary_word un.Not = codes "not"
unary_word un.Neg = codes "neg"

abbrev pub truth_word : Bool → List ℕ
truth_word true = codes "true"
truth_word false = codes "false"
