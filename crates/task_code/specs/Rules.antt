-- The rules that every program keeps.
use Rattle.std.specs.Prelude.{◌≡◌, ℕ, ◌+◌, ◌*◌, ◌^◌, ◌<◌, ◌≤◌, sum, map, length, slice_index, All, true, pos, neg_ℤ, ◌≤ℤ◌, ◌<ℤ◌}
use Rattle.tower_types.specs.declared.scalar.Scalar.{Scalar}
use Rattle.tower_types.specs.declared.scalar.Scalar.TheVariants as scalar
use Rattle.tower_types.specs.Arithmetic.{is_number}
use Rattle.task_code.specs.declared.program.Buffer.{Buffer}
use Rattle.task_code.specs.declared.program.Task.{Task}
use Rattle.task_code.specs.declared.program.Instr.{Instr}
use Rattle.task_code.specs.declared.program.Instr.TheVariants.{Push, Drop, Dup, Ld, St, Ldx, Stx, Ldm, Stm, Un, Bin, Cast, Jmp, Jz, Call, Ret, Take, Lock, Unlock, Out, Bclr, Bput, Badd, Bget, Bcnt}
use Rattle.task_code.specs.Program.{Program}

-- no number of words, and no number of monitors, outputs, tasks or buffers of a task, is above this
abbrev pub most_words : ℕ
most_words = 1048576

abbrev pub most_instructions : ℕ
most_instructions = 1000000

-- n words from a on, at least one, lie among so many
abbrev pub IsRange : ℕ → ℕ → ℕ → Type 0
IsRange a n room = (1 ≤ n) × (a + n ≤ room)

-- a number from 1 to the greatest number of words
abbrev pub IsCount : ℕ → Type 0
IsCount n = (1 ≤ n) × (n ≤ most_words)

abbrev pub IsScalar : Scalar → Type 0
IsScalar (scalar.Ix n) = (1 ≤ n) × (n ≤ 65536)
IsScalar _ = Unit {0}

-- what an instruction names is there
abbrev pub IsInstr : Program → Task → Instr → Type 0
IsInstr p t (Push n) = (neg_ℤ (pos (2 ^ 63)) ≤ℤ n) × (n <ℤ pos (2 ^ 64))
IsInstr p t Drop = Unit {0}
IsInstr p t Dup = Unit {0}
IsInstr p t (Ld a) = a < t.room
IsInstr p t (St a) = a < t.room
IsInstr p t (Ldx a n) = IsRange a n t.room
IsInstr p t (Stx a n) = IsRange a n t.room
IsInstr p t (Ldm m a n) = (m < length p.monitors) × IsRange a n (slice_index p.monitors m)
IsInstr p t (Stm m a n) = (m < length p.monitors) × IsRange a n (slice_index p.monitors m)
IsInstr p t (Un op s) = IsScalar s
IsInstr p t (Bin op s) = IsScalar s
IsInstr p t (Cast s) = IsScalar s × (is_number s ≡ true)
IsInstr p t (Jmp to) = to < length t.code
IsInstr p t (Jz to) = to < length t.code
IsInstr p t (Call to) = to < length t.code
IsInstr p t Ret = Unit {0}
IsInstr p t (Take a) = a + t.message ≤ t.room
IsInstr p t (Lock m) = m < length p.monitors
IsInstr p t (Unlock m) = m < length p.monitors
IsInstr p t (Out o a) = (o < length p.outputs) × (a + slice_index p.outputs o ≤ t.room)
IsInstr p t (Bclr b) = b < length t.buffers
IsInstr p t (Bput b) = b < length t.buffers
IsInstr p t (Badd b) = b < length t.buffers
IsInstr p t (Bget b) = b < length t.buffers
IsInstr p t (Bcnt b) = b < length t.buffers

abbrev pub IsBuffer : Buffer → Type 0
IsBuffer b = IsCount b.width × (b.bound ≤ most_words)

pub record IsTask (p : Program) (t : Task) : Type 0 where
  pub message : IsCount t.message
  pub room : t.room ≤ most_words
  pub few_buffers : length t.buffers ≤ most_words
  pub buffers : All IsBuffer t.buffers
  pub code : All (IsInstr p t) t.code

-- a task's private words, and all words of its buffers
abbrev pub task_words : Task → ℕ
task_words t = t.room + sum (map (λ b. b.bound * b.width) t.buffers)

abbrev pub all_words : Program → ℕ
all_words p = sum p.monitors + sum (map task_words p.tasks)

abbrev pub all_instructions : Program → ℕ
all_instructions p = sum (map (λ t. length t.code) p.tasks)

pub record KeepsRules (p : Program) : Type 0 where
  pub few_monitors : length p.monitors ≤ most_words
  pub few_outputs : length p.outputs ≤ most_words
  pub few_tasks : length p.tasks ≤ most_words
  pub monitors : All (λ n. n ≤ most_words) p.monitors
  pub outputs : All (λ n. n ≤ most_words) p.outputs
  pub tasks : All (IsTask p) p.tasks
  pub words : all_words p ≤ most_words
  pub instructions : all_instructions p ≤ most_instructions
