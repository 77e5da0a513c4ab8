-- What may stand in a line of each kind: at sight, and spelled right.
use Rattle.std.specs.Prelude.{◌≡◌, ◌⊎◌, ◌≤◌, ℕ, List, [], ◌∷◌, ◌++◌, map, true, codes, decimal, Option, Some, None}
use Rattle.tower_types.specs.declared.scalar.Scalar.{Scalar}
use Rattle.tower_types.specs.declared.scalar.BinOp.{BinOp}
use Rattle.tower_types.specs.declared.scalar.UnOp.{UnOp}
use Rattle.tower_syntax.specs.Words.{binary_word, unary_word}
use Rattle.task_code.specs.declared.program.Instr.{Instr}
use Rattle.task_code.specs.Rules.{most_words, IsScalar}
use Rattle.task_listing.specs.declared.fault.ListKind.{ListKind}
use Rattle.task_listing.specs.declared.fault.ListKind.TheVariants as fault
use Rattle.task_listing.specs.declared.kind.Kind.{Kind}
use Rattle.task_listing.specs.declared.kind.Kind.TheVariants as kind
use Rattle.task_listing.specs.Lines.{Bytes}
use Rattle.task_listing.specs.Numbers.{is_word, is_number}
use Rattle.task_listing.specs.Spelling.{Word, letters, natural, integer, unary, binary, scalar, scalar_text, words_of}

-- what stands at a place of a line
pub data Slot : Type 0 where
  fixed : Bytes → Slot
  priority : Slot
  count : Slot
  number : Slot
  unary_op : Slot
  binary_op : Slot
  type : Slot

-- the operand of an instruction may be any number
abbrev pub slot_of : Word → Slot
slot_of (letters w) = fixed w
slot_of (natural n) = number
slot_of (integer n) = number
slot_of (unary op) = unary_op
slot_of (binary op) = binary_op
slot_of (scalar s) = type

abbrev pub IsDecimal : ℕ → Bytes → Type 0
IsDecimal most b = (n : ℕ) × (n ≤ most) × (b ≡ decimal n)

abbrev pub IsTypeWord : Bytes → Type 0
IsTypeWord b = (s : Scalar) × IsScalar s × (b ≡ scalar_text s)

-- a word that begins with `ix:`
abbrev pub IsIndexWord : Bytes → Type 0
IsIndexWord b = (rest : Bytes) × (is_word b ≡ true) × (b ≡ codes "ix:" ++ rest)

abbrev pub IsSpelled : Slot → Bytes → Type 0
IsSpelled (fixed w) b = b ≡ w
IsSpelled priority b = IsDecimal 255 b
IsSpelled count b = IsDecimal most_words b
IsSpelled number b = is_number b ≡ true
IsSpelled unary_op b = (op : UnOp) × (b ≡ unary_word op)
IsSpelled binary_op b = (op : BinOp) × (b ≡ binary_word op)
IsSpelled type b = IsTypeWord b

-- where a number stands, any word does at sight, and where a type stands, each that begins with `ix:`
abbrev pub AtSight : Slot → Bytes → Type 0
AtSight (fixed w) b = b ≡ w
AtSight priority b = is_word b ≡ true
AtSight count b = is_word b ≡ true
AtSight number b = is_word b ≡ true
AtSight unary_op b = (op : UnOp) × (b ≡ unary_word op)
AtSight binary_op b = (op : BinOp) × (b ≡ binary_word op)
AtSight type b = IsTypeWord b ⊎ IsIndexWord b

-- each word is as its place wants it
abbrev pub Each : (Slot → Bytes → Type 0) → List Slot → List Bytes → Type 0
Each P [] [] = Unit {0}
Each P [] (w ∷ ws) = ⊥
Each P (s ∷ ss) [] = ⊥
Each P (s ∷ ss) (w ∷ ws) = P s w × Each P ss ws

-- the lines that are no instructions
abbrev pub form : Kind → List Slot
form kind.Title = fixed (codes "tower-listing") ∷ fixed (codes "1") ∷ []
form kind.Monitors = fixed (codes "monitors") ∷ count ∷ []
form kind.Monitor = fixed (codes "monitor") ∷ count ∷ []
form kind.Outputs = fixed (codes "outputs") ∷ count ∷ []
form kind.Output = fixed (codes "output") ∷ count ∷ []
form kind.Tasks = fixed (codes "tasks") ∷ count ∷ []
form kind.Task = fixed (codes "task") ∷ priority ∷ count ∷ count ∷ count ∷ count ∷ []
form kind.Buffer = fixed (codes "buffer") ∷ count ∷ count ∷ []
form kind.Instruction = []
form kind.Ending = fixed (codes "end") ∷ []

-- the words are those of the kind: for an instruction, those of a row of the table
abbrev pub Has : (Slot → Bytes → Type 0) → Kind → List Bytes → Type 0
Has P kind.Instruction ws = (i : Instr) × Each P (map slot_of (words_of i)) ws
Has P k ws = Each P (form k) ws

-- No fault: the words are right at sight and spelled right. `Line`: they are not at sight. `Number`: they are at sight,
-- and not spelled right.
abbrev pub IsJudged : Type 0 → Type 0 → Option ListKind → Type 0
IsJudged S T None = S × T
IsJudged S T (Some fault.Line) = S → ⊥
IsJudged S T (Some fault.Number) = S × (T → ⊥)
IsJudged S T (Some _) = ⊥
