-- How the code of a task is planned: where it is between sections, and what these do.
use Rattle.std.specs.Prelude.{◌≡◌, ◌^◌, ℕ, ◌+◌, ◌<◌, ◌≤◌, List, [], length, true, Some, None, slice_get, Contains}
use Rattle.tower_types.specs.Value.{Value, flat}
use Rattle.tower_syntax.specs.declared.arch.On.TheVariants as on
use Rattle.tower_syntax.specs.declared.arch.Listener.TheVariants as to
use Rattle.tower_syntax.specs.Arch.{Arch, Emitter}
use Rattle.tower_syntax.specs.Graph.{handler, subs, Reaches, reached_by}
use Rattle.tower_syntax.specs.Weights.{section, message_words}
use Rattle.tower_meaning.specs.Fits.{fits_item}
use Rattle.task_code.specs.declared.program.Task.{Task}
use Rattle.task_code.specs.Program.{Program}
use Rattle.task_code.specs.Own.{Own}
use Rattle.task_code.specs.Formed.{HoldWords, IsFormed}
use Rattle.task_code.specs.Holds.{HoldLists, buffers_at}
use Rattle.task_code.specs.Piece.{end, Stands}
use Rattle.task_alone.specs.Visits.{Section}
use Rattle.task_alone.specs.SettingOf.{setting_of, first_buffer, buffer_places}
use Rattle.stmt_code.specs.FrameOf.{frame_of}
use Rattle.stmt_code.specs.Section.{section_code}
use Rattle.emit_code.specs.Delivery.{Entry}
use Rattle.emit_code.specs.Entries.{frame_in, place_in, InOwn, OwnBuffers, IsFramed, Entered}
use Rattle.task_build.specs.TaskEntries.{Planned, Headed}

-- behind the UNLOCK of h: what its effect sent is in its buffers, and only its frame, but for the message, and its buffers have changed
pub record Sent (arch : Arch) (t : Task) (x : ℕ) (entries : List Entry) (h : ℕ) (message v : Value) (u o : Own) : Type 0 where
  pub is_at : o.place ≡ end (place_in entries h) (section_code arch (handler arch h) (frame_in entries h) (place_in entries h))
  pub calls : o.calls ≡ u.calls
  pub stack : o.stack ≡ []
  pub free : o.held ≡ None
  pub formed : IsFormed t o
  pub words : (a : ℕ) → (InOwn arch entries h a → ⊥) → slice_get o.words a ≡ slice_get u.words a
  pub buffers : (b : ℕ) → (OwnBuffers arch entries h b → ⊥) → slice_get o.buffers b ≡ slice_get u.buffers b
  pub lists : HoldLists (buffers_at o (buffer_places arch x h)) ((setting_of arch).system.effect h v message).lists

-- the section of each handler does what is asked, with time for LOCK, UNLOCK and RET
abbrev pub SectionRuns : Arch → Program → Task → ℕ → List Entry → ℕ → Type 0
SectionRuns arch p t x entries h =
    (v : Value) → fits_item arch (to.Handler h, v) ≡ true → (u : Own) → Entered t entries h v u
    → (most : ℕ) × (most + 3 ≤ section arch (handler arch h)) × Section (setting_of arch) p t x h v most u (λ w. Sent arch t x entries h v w u)

-- between two calls of the head
pub record AtHead (t : Task) (taken : ℕ) (v : Value) (place : ℕ) (o : Own) : Type 0 where
  pub is_at : o.place ≡ place
  pub calls : o.calls ≡ []
  pub stack : o.stack ≡ []
  pub free : o.held ≡ None
  pub formed : IsFormed t o
  pub message : HoldWords o.words taken (flat v)

-- before a message is taken
pub record AtTake (t : Task) (o : Own) : Type 0 where
  pub is_at : o.place ≡ 0
  pub calls : o.calls ≡ []
  pub stack : o.stack ≡ []
  pub free : o.held ≡ None
  pub formed : IsFormed t o

-- the code of a task for source x, as it has to be
pub record IsDelivered (arch : Arch) (p : Program) (t : Task) (x : ℕ) : Type 0 where
  pub there : x < length arch.sources
  pub entries : List Entry
  pub planned : Planned arch p t x entries
  pub headed : Headed arch t x entries
  pub sections : (h : ℕ) → Reaches arch x h → SectionRuns arch p t x entries h

-- the bounds of emitters are 64-bit numbers, and so is one more
abbrev pub HasSmallBounds : Arch → Type 0
HasSmallBounds arch = (h k : ℕ) (e : Emitter) → slice_get (handler arch h).emitters k ≡ Some e → e.bound + 1 < 2 ^ 64
