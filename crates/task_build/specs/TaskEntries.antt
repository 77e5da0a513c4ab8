-- The entries of a task in the program of a system, and where its code stands.
use Rattle.std.specs.Prelude.{◌≡◌, ℕ, ◌+◌, ◌≤◌, List, length, Contains}
use Rattle.tower_syntax.specs.declared.arch.On.TheVariants as on
use Rattle.tower_syntax.specs.declared.arch.Listener.TheVariants as to
use Rattle.tower_syntax.specs.Arch.{Arch}
use Rattle.tower_syntax.specs.Graph.{handler, subs, Reaches, reached_by}
use Rattle.tower_syntax.specs.Weights.{message_words}
use Rattle.task_code.specs.declared.program.Task.{Task}
use Rattle.task_code.specs.Program.{Program}
use Rattle.task_code.specs.Piece.{end, Stands}
use Rattle.task_alone.specs.SettingOf.{first_buffer}
use Rattle.stmt_code.specs.FrameOf.{frame_of}
use Rattle.emit_code.specs.Delivery.{Entry}
use Rattle.emit_code.specs.Entries.{frame_in, place_in, IsFramed}
use Rattle.task_build.specs.CodeOf.{frames_from, handler_code, head_code, taken_at, entries_from, unplaced}

-- the handlers that source x reaches, with their frames and no places yet
abbrev pub known_of : Arch → ℕ → List Entry
known_of arch x = unplaced (reached_by arch x) (frames_from arch 0 0 (reached_by arch x))

-- where the task takes its messages
abbrev pub taken_of : Arch → ℕ → ℕ
taken_of arch x = taken_at (known_of arch x) (subs arch (on.Source x))

-- the entries of the task of source x
abbrev pub entries_of : Arch → ℕ → List Entry
entries_of arch x =
    let head = head_code arch (known_of arch x) x (taken_of arch x) (message_words arch (on.Source x)) in
    entries_from arch (known_of arch x) (end 0 head) (reached_by arch x) (frames_from arch 0 0 (reached_by arch x))

-- The code of each handler that source x reaches stands at its entry. Its frame is the one that is laid out for it, and
-- its buffers are those that the emitters of the handlers before it leave.
pub record Planned (arch : Arch) (p : Program) (t : Task) (x : ℕ) (entries : List Entry) : Type 0 where
  pub stands : (h : ℕ) → Reaches arch x h → Stands t.code (place_in entries h) (handler_code arch entries h (frame_in entries h) (place_in entries h))
  pub frame : (h : ℕ) → Reaches arch x h → frame_in entries h ≡ frame_of arch h (frame_in entries h).param (frame_in entries h).first_buffer
  pub first : (h : ℕ) → Reaches arch x h → (frame_in entries h).first_buffer ≡ first_buffer arch (reached_by arch x) h
  pub has_buffers : (h : ℕ) → Reaches arch x h → (frame_in entries h).first_buffer + length (handler arch h).emitters ≤ length t.buffers
  pub framed : IsFramed arch p t x entries

-- The head of the task stands first. Where a handler is on the source, a message is taken into the frame of one of them.
pub record Headed (arch : Arch) (t : Task) (x : ℕ) (entries : List Entry) : Type 0 where
  pub taken : ℕ
  pub stands : Stands t.code 0 (head_code arch entries x taken (message_words arch (on.Source x)))
  pub room : taken + message_words arch (on.Source x) ≤ t.room
  pub first : (k : ℕ) → Contains (subs arch (on.Source x)) (to.Handler k) → (g : ℕ) × Contains (subs arch (on.Source x)) (to.Handler g) × (taken ≡ (frame_in entries g).param)
