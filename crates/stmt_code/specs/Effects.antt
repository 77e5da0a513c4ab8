-- What the code of a handler's section does: from its LOCK to its UNLOCK it does the effect.
use Rattle.std.specs.Prelude.{◌≡◌, ℕ, ◌+◌, ◌<◌, ◌≤◌, true, List, [], length, Some, None, slice_get}
use Rattle.tower_types.specs.Value.{Value, flat}
use Rattle.tower_syntax.specs.declared.arch.Listener.TheVariants as to
use Rattle.tower_syntax.specs.Arch.{Arch, Emitter}
use Rattle.tower_syntax.specs.Graph.{handler}
use Rattle.tower_syntax.specs.Weights.{message_words, emitter_words, section, section_by, standing, handler_memory, memory}
use Rattle.tower_meaning.specs.System.{system_of}
use Rattle.tower_meaning.specs.Fits.{fits_item, fits_monitor}
use Rattle.task_code.specs.declared.frame.Frame.{Frame}
use Rattle.task_code.specs.declared.program.Task.{Task}
use Rattle.task_code.specs.declared.program.Instr.TheVariants.{Lock, Unlock}
use Rattle.task_code.specs.Program.{Program}
use Rattle.task_code.specs.Own.{Own}
use Rattle.task_code.specs.Leads.{Leads}
use Rattle.task_code.specs.Formed.{HoldWords, IsFormed, ChangesOnly}
use Rattle.task_code.specs.Holds.{HoldLists, buffers_at}
use Rattle.task_code.specs.Piece.{end, listed, Stands}
use Rattle.task_alone.specs.Visits.{with_lock_of}
use Rattle.task_alone.specs.SettingOf.{numbers_from}
use Rattle.tower_syntax.specs.Typed.{IsTyped}
use Rattle.arch_types.specs.Shallow.{IsShallow}
use Rattle.channel_graph.specs.Over.{NoneOver}
use Rattle.stmt_code.specs.FrameOf.{frame_of}
use Rattle.stmt_code.specs.Section.{section_code}

-- what a task must have for the code of handler h: the words of its frame, and a buffer for each of its emitters
pub record HasFrame (arch : Arch) (t : Task) (h : ℕ) (f : Frame) : Type 0 where
  pub laid : f ≡ frame_of arch h f.param f.first_buffer
  pub room : f.end ≤ t.room
  pub has_buffers : f.first_buffer + length (handler arch h).emitters ≤ length t.buffers
  pub tables : (k : ℕ) (e : Emitter) → slice_get (handler arch h).emitters k ≡ Some e
      → slice_get t.buffers (f.first_buffer + k) ≡ Some (record { width = emitter_words arch e; bound = e.bound })

-- the words of the frame behind its message, and the buffers of the handler's emitters
abbrev pub IsOwnWord : Arch → ℕ → Frame → ℕ → Type 0
IsOwnWord arch h f a = (f.param + message_words arch (handler arch h).on ≤ a) × (a < f.end)

abbrev pub IsOwnBuffer : Arch → ℕ → Frame → ℕ → Type 0
IsOwnBuffer arch h f b = (f.first_buffer ≤ b) × (b < f.first_buffer + length (handler arch h).emitters)

abbrev pub own_buffers : Arch → ℕ → Frame → List ℕ
own_buffers arch h f = numbers_from f.first_buffer (length (handler arch h).emitters)

-- at the first instruction, with the message in the frame, an empty operand stack and no lock
pub record BeforeLock (t : Task) (f : Frame) (a : ℕ) (message : Value) (u : Own) : Type 0 where
  pub is_at : u.place ≡ a
  pub stack : u.stack ≡ []
  pub free : u.held ≡ None
  pub formed : IsFormed t u
  pub message_there : HoldWords u.words f.param (flat message)

-- From u the task locks its monitor, and where it is handed the words of v, at most so many private instructions lead it
-- to its UNLOCK: with the words of the effect, and the handler's buffers holding exactly its lists. Both stacks are as they
-- were, and only words of the frame behind the message and the handler's own buffers have changed.
pub record DoesEffect (arch : Arch) (p : Program) (t : Task) (h : ℕ) (f : Frame) (a most : ℕ) (message v : Value) (u : Own) : Type 0 where
  pub lock : slice_get t.code u.place ≡ Some (Lock (handler arch h).monitor)
  pub own : Own
  pub leads : Leads p t most (with_lock_of (handler arch h).monitor v u) own
  pub unlock : slice_get t.code own.place ≡ Some (Unlock (handler arch h).monitor)
  pub last : end a (section_code arch (handler arch h) f a) ≡ own.place + 1
  pub calls : own.calls ≡ u.calls
  pub stack : own.stack ≡ []
  pub held : own.held ≡ Some (record { monitor = (handler arch h).monitor; words = flat ((system_of arch).effect h v message).states })
  pub lists : HoldLists (buffers_at own (own_buffers arch h f)) ((system_of arch).effect h v message).lists
  pub formed : IsFormed t own
  pub changed : ChangesOnly (IsOwnWord arch h f) (IsOwnBuffer arch h f) u own

-- The code of each section does so, whatever message and value it is handed that fit, and takes at most its weight,
-- counted with its LOCK, its UNLOCK and the RET behind it.
abbrev pub SectionsDoEffects : Type 0
SectionsDoEffects =
    (arch : Arch) (p : Program) (t : Task) (h : ℕ) (f : Frame) (a : ℕ) → IsTyped arch → IsShallow arch → NoneOver arch → memory arch ≤ 1048576
    → handler_memory arch (handler arch h) ≤ 1048576 → HasFrame arch t h f → Stands t.code a (section_code arch (handler arch h) f a)
    → (most : ℕ) × (most + 3 ≤ section arch (handler arch h))
    × ((message v : Value) → fits_item arch (to.Handler h, message) ≡ true → fits_monitor arch (handler arch h).monitor v ≡ true
    → (u : Own) → BeforeLock t f a message u → DoesEffect arch p t h f a most message v u)

-- fewer instructions stand there than the weight counts
abbrev pub SectionsAreShort : Type 0
SectionsAreShort =
    (arch : Arch) (h : ℕ) (f : Frame) (a : ℕ) → length (listed (section_code arch (handler arch h) f a)) < section_by standing arch (handler arch h)
