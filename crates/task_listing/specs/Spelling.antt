-- How each line of a listing is spelled.
use Rattle.std.specs.Prelude.{ℕ, ℤ, List, [], ◌∷◌, ◌++◌, map, codes, decimal}
use Rattle.std.specs.Fmt.{signed_decimal}
use Rattle.tower_types.specs.declared.scalar.Scalar.{Scalar}
use Rattle.tower_types.specs.declared.scalar.Scalar.TheVariants as scalars
use Rattle.tower_types.specs.declared.scalar.BinOp.{BinOp}
use Rattle.tower_types.specs.declared.scalar.UnOp.{UnOp}
use Rattle.tower_syntax.specs.Words.{scalar_word, binary_word, unary_word}
use Rattle.task_code.specs.declared.program.Instr.{Instr}
use Rattle.task_code.specs.declared.program.Instr.TheVariants.{Push, Drop, Dup, Ld, St, Ldx, Stx, Ldm, Stm, Un, Bin, Cast, Jmp, Jz, Call, Ret, Take, Lock, Unlock, Out, Bclr, Bput, Badd, Bget, Bcnt}
use Rattle.task_listing.specs.Lines.{Bytes, line}

-- what is written as one word
pub data Word : Type 0 where
  letters : Bytes → Word
  natural : ℕ → Word
  integer : ℤ → Word
  unary : UnOp → Word
  binary : BinOp → Word
  scalar : Scalar → Word

abbrev pub scalar_text : Scalar → Bytes
scalar_text (scalars.Ix n) = codes "ix:" ++ decimal n
scalar_text s = scalar_word s

abbrev pub text : Word → Bytes
text (letters w) = w
text (natural n) = decimal n
text (integer n) = signed_decimal n
text (unary op) = unary_word op
text (binary op) = binary_word op
text (scalar s) = scalar_text s

-- a line of words
abbrev pub written : List Word → Bytes
written ws = line (map text ws)

-- a word, and the numbers behind it
abbrev pub with_numbers : Bytes → List ℕ → List Word
with_numbers w ns = letters w ∷ map natural ns

-- the instructions, one a row
abbrev pub words_of : Instr → List Word
words_of (Push n) = letters (codes "PUSH") ∷ integer n ∷ []
words_of Drop = letters (codes "DROP") ∷ []
words_of Dup = letters (codes "DUP") ∷ []
words_of (Ld a) = letters (codes "LD") ∷ natural a ∷ []
words_of (St a) = letters (codes "ST") ∷ natural a ∷ []
words_of (Ldx a n) = letters (codes "LDX") ∷ natural a ∷ natural n ∷ []
words_of (Stx a n) = letters (codes "STX") ∷ natural a ∷ natural n ∷ []
words_of (Ldm m a n) = letters (codes "LDM") ∷ natural m ∷ natural a ∷ natural n ∷ []
words_of (Stm m a n) = letters (codes "STM") ∷ natural m ∷ natural a ∷ natural n ∷ []
words_of (Un op t) = letters (codes "UN") ∷ unary op ∷ scalar t ∷ []
words_of (Bin op t) = letters (codes "BIN") ∷ binary op ∷ scalar t ∷ []
words_of (Cast t) = letters (codes "CAST") ∷ scalar t ∷ []
words_of (Jmp to) = letters (codes "JMP") ∷ natural to ∷ []
words_of (Jz to) = letters (codes "JZ") ∷ natural to ∷ []
words_of (Call to) = letters (codes "CALL") ∷ natural to ∷ []
words_of Ret = letters (codes "RET") ∷ []
words_of (Take a) = letters (codes "TAKE") ∷ natural a ∷ []
words_of (Lock m) = letters (codes "LOCK") ∷ natural m ∷ []
words_of (Unlock m) = letters (codes "UNLOCK") ∷ natural m ∷ []
words_of (Out o a) = letters (codes "OUT") ∷ natural o ∷ natural a ∷ []
words_of (Bclr b) = letters (codes "BCLR") ∷ natural b ∷ []
words_of (Bput b) = letters (codes "BPUT") ∷ natural b ∷ []
words_of (Badd b) = letters (codes "BADD") ∷ natural b ∷ []
words_of (Bget b) = letters (codes "BGET") ∷ natural b ∷ []
words_of (Bcnt b) = letters (codes "BCNT") ∷ natural b ∷ []
