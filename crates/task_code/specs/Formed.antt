-- What is known of a task's own part wherever it stands, and what a stretch of its code may change.
use Rattle.std.specs.Prelude.{◌≡◌, ℕ, ◌+◌, ◌≤◌, ℤ, List, length, Some, slice_get}
use Rattle.task_code.specs.declared.program.Buffer.{Buffer}
use Rattle.task_code.specs.declared.program.Task.{Task}
use Rattle.task_code.specs.Own.{Filled, Own}

-- these words stand from a on
abbrev pub HoldWords : List ℤ → ℕ → List ℤ → Type 0
HoldWords words a ws = (k : ℕ) (w : ℤ) → slice_get ws k ≡ Some w → slice_get words (a + k) ≡ Some w

-- a buffer has the slots of the table, each with as many words as a message, and no more messages than its bound
pub record IsFormedBuffer (s : Buffer) (f : Filled) : Type 0 where
  pub slots : length f.slots ≡ s.bound
  pub few : f.count ≤ s.bound
  pub wide : (k : ℕ) (ws : List ℤ) → slice_get f.slots k ≡ Some ws → length ws ≡ s.width

-- a task has its words and its buffers
pub record IsFormed (t : Task) (o : Own) : Type 0 where
  pub room : length o.words ≡ t.room
  pub many : length o.buffers ≡ length t.buffers
  pub buffers : (b : ℕ) (s : Buffer) (f : Filled) → slice_get t.buffers b ≡ Some s → slice_get o.buffers b ≡ Some f → IsFormedBuffer s f

-- from u to o, only words and buffers have changed that may
pub record ChangesOnly (May MayB : ℕ → Type 0) (u o : Own) : Type 0 where
  pub words : (a : ℕ) → (May a → ⊥) → slice_get o.words a ≡ slice_get u.words a
  pub buffers : (b : ℕ) → (MayB b → ⊥) → slice_get o.buffers b ≡ slice_get u.buffers b
