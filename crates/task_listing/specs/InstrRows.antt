-- When words are a line of an instruction, by its row of the table.
use Rattle.std.specs.Prelude.{◌≡◌, ◌<◌, ◌^◌, pos, neg_ℤ, ◌≤ℤ◌, ◌<ℤ◌, List, map}
use Rattle.task_code.specs.declared.program.Instr.{Instr}
use Rattle.task_code.specs.declared.program.Instr.TheVariants as instr
use Rattle.task_code.specs.Rules.{IsScalar}
use Rattle.task_listing.specs.Lines.{Bytes}
use Rattle.task_listing.specs.Spelling.{text, words_of}

-- what is pushed is in its range, and so is the n of an index type
abbrev pub IsOperands : Instr → Type 0
IsOperands (instr.Push n) = (neg_ℤ (pos (2 ^ 63)) ≤ℤ n) × (n <ℤ pos (2 ^ 64))
IsOperands (instr.Un op s) = IsScalar s
IsOperands (instr.Bin op s) = IsScalar s
IsOperands (instr.Cast s) = IsScalar s
IsOperands _ = Unit {0}

-- each other number is below 2 to the 32
abbrev pub IsSmall : Instr → Type 0
IsSmall (instr.Ld a) = a < 2 ^ 32
IsSmall (instr.St a) = a < 2 ^ 32
IsSmall (instr.Ldx a n) = (a < 2 ^ 32) × (n < 2 ^ 32)
IsSmall (instr.Stx a n) = (a < 2 ^ 32) × (n < 2 ^ 32)
IsSmall (instr.Ldm m a n) = (m < 2 ^ 32) × (a < 2 ^ 32) × (n < 2 ^ 32)
IsSmall (instr.Stm m a n) = (m < 2 ^ 32) × (a < 2 ^ 32) × (n < 2 ^ 32)
IsSmall (instr.Jmp to) = to < 2 ^ 32
IsSmall (instr.Jz to) = to < 2 ^ 32
IsSmall (instr.Call to) = to < 2 ^ 32
IsSmall (instr.Take a) = a < 2 ^ 32
IsSmall (instr.Lock m) = m < 2 ^ 32
IsSmall (instr.Unlock m) = m < 2 ^ 32
IsSmall (instr.Out o a) = (o < 2 ^ 32) × (a < 2 ^ 32)
IsSmall (instr.Bclr b) = b < 2 ^ 32
IsSmall (instr.Bput b) = b < 2 ^ 32
IsSmall (instr.Badd b) = b < 2 ^ 32
IsSmall (instr.Bget b) = b < 2 ^ 32
IsSmall (instr.Bcnt b) = b < 2 ^ 32
IsSmall _ = Unit {0}

-- the words are those of the row
pub record Spells (ws : List Bytes) (i : Instr) : Type 0 where
  pub same : ws ≡ map text (words_of i)
  pub operands : IsOperands i
  pub small : IsSmall i
