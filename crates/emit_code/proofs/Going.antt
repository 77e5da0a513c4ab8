-- What is kept of a task while it delivers.
use Rattle.std.specs.Prelude.{◌≡◌, ◌⊎◌, ℕ, suc, ◌+◌, ◌<◌, ◌≤◌, pos, List, length, map, take, Some, slice_get, slice_index}
use Rattle.tower_types.specs.Value.{Value, flat}
use Rattle.tower_syntax.specs.declared.arch.Listener.{Listener}
use Rattle.tower_syntax.specs.declared.arch.Listener.TheVariants as to
use Rattle.tower_syntax.specs.Arch.{Arch}
use Rattle.task_code.specs.declared.program.Buffer.{Buffer}
use Rattle.task_code.specs.declared.program.Task.{Task}
use Rattle.task_code.specs.Program.{Program}
use Rattle.task_code.specs.Own.{Filled, Own}
use Rattle.emit_code.specs.Delivery.{Entry}
use Rattle.emit_code.specs.Entries.{frame_in, Carries, Going}

-- buffer b holds exactly these messages
pub record Buffered (o : Own) (b : ℕ) (vs : List Value) : Type 0 where
  pub filled : Filled
  pub has : slice_get o.buffers b ≡ Some filled
  pub count : filled.count ≡ length vs
  pub slots : take filled.count filled.slots ≡ map flat vs

-- the message with number m is being delivered
pub record Counts (t : Task) (May MayB : ℕ → Type 0) (u : Own) (i m place : ℕ) (o : Own) : Type 0 where
  pub going : Going t May MayB u place o
  pub counter : slice_get o.words i ≡ Some (pos m)

-- a message of so many words may be written at a, and the counter is not there
pub record Target (t : Task) (May : ℕ → Type 0) (i width a : ℕ) : Type 0 where
  pub may : (c : ℕ) → a ≤ c → c < a + width → May c
  pub room : a + width ≤ t.room
  pub apart : (i < a) ⊎ (a + width ≤ i)

-- what a subscriber of an emitter needs to be served
abbrev pub Ready : Arch → Program → Task → ℕ → List Entry → (ℕ → ℕ) → ℕ → (Touch TouchB May : ℕ → Type 0) → (i scratch width : ℕ) → Listener → Type 0
Ready arch p t x entries cost n Touch TouchB May i scratch width (to.Output k) = (slice_index p.outputs k ≡ width) × Target t May i width scratch
Ready arch p t x entries cost n Touch TouchB May i scratch width (to.Handler k) = Carries arch p t x entries n Touch TouchB (cost k) k × Target t May i width (frame_in entries k).param

-- What is known while the messages of buffer b are delivered: what a called handler touches may be changed, the counter
-- i and the buffer are not touched, and there is room for a call.
pub record Around (t : Task) (n : ℕ) (Touch TouchB May MayB : ℕ → Type 0) (u : Own) (i b : ℕ) (s : Buffer) (width : ℕ) : Type 0 where
  pub is : slice_get t.buffers b ≡ Some s
  pub wide : s.width ≡ width
  pub counter : Touch i → ⊥
  pub buffer : MayB b → ⊥
  pub inside : (c : ℕ) → Touch c → May c
  pub inside_buffers : (c : ℕ) → TouchB c → MayB c
  pub calls : suc (length u.calls) ≤ n
  pub room : n ≤ 256
