-- The entries of the handlers that a task reaches: where their words and buffers lie, and that one carries out its item.
use Rattle.std.specs.Prelude.{◌≡◌, ◌≢◌, ◌⊎◌, ◌^◌, ℕ, ◌+◌, ◌<◌, ◌≤◌, List, [], ◌∷◌, length, true, Some, None, slice_get, slice_index, slice_index_or}
use Rattle.tower_types.specs.Value.{Value, flat}
use Rattle.tower_syntax.specs.declared.arch.On.TheVariants as on
use Rattle.tower_syntax.specs.declared.arch.Listener.TheVariants as to
use Rattle.tower_syntax.specs.Arch.{Arch, Emitter}
use Rattle.tower_syntax.specs.Graph.{handler, output, leads, Reaches}
use Rattle.tower_syntax.specs.Weights.{message_words, emitter_words}
use Rattle.tower_meaning.specs.Fits.{fits_item}
use Rattle.task_code.specs.declared.program.Buffer.{Buffer}
use Rattle.task_code.specs.declared.program.Task.{Task}
use Rattle.task_code.specs.declared.frame.Frame.{Frame}
use Rattle.task_code.specs.Program.{Program}
use Rattle.task_code.specs.Own.{Own}
use Rattle.task_code.specs.Formed.{HoldWords, IsFormed, ChangesOnly}
use Rattle.task_alone.specs.Visits.{Visits}
use Rattle.task_alone.specs.SettingOf.{setting_of}
use Rattle.emit_code.specs.Delivery.{Entry, entry_of}

abbrev pub frame_in : List Entry → ℕ → Frame
frame_in entries h = (entry_of entries h).frame

abbrev pub place_in : List Entry → ℕ → ℕ
place_in entries h = (entry_of entries h).place

-- one or more links lead from h to a handler
pub data Behind (arch : Arch) (h : ℕ) : ℕ → Type 0 where
  next : (k : ℕ) → leads arch h k ≡ true → Behind arch h k
  later : (j k : ℕ) → Behind arch h j → leads arch j k ≡ true → Behind arch h k

-- no handler that source x reaches is behind itself
abbrev pub NoneComesBack : Arch → ℕ → Type 0
NoneComesBack arch x = (k : ℕ) → Reaches arch x k → Behind arch k k → ⊥

-- the word a belongs to the frame of h
abbrev pub InFrame : List Entry → ℕ → ℕ → Type 0
InFrame entries h a = ((frame_in entries h).param ≤ a) × (a < (frame_in entries h).end)

-- the word a belongs to the frame of h, and stands behind its message
abbrev pub InOwn : Arch → List Entry → ℕ → ℕ → Type 0
InOwn arch entries h a = ((frame_in entries h).param + message_words arch (handler arch h).on ≤ a) × (a < (frame_in entries h).end)

-- behind the last buffer of h
abbrev pub buffers_end : Arch → List Entry → ℕ → ℕ
buffers_end arch entries h = (frame_in entries h).first_buffer + length (handler arch h).emitters

-- the buffer b is one of an emitter of h
abbrev pub OwnBuffers : Arch → List Entry → ℕ → ℕ → Type 0
OwnBuffers arch entries h b = ((frame_in entries h).first_buffer ≤ b) × (b < buffers_end arch entries h)

-- the word a belongs to the frame of a handler behind h
pub record InFrames (arch : Arch) (x : ℕ) (entries : List Entry) (h a : ℕ) : Type 0 where
  pub number : ℕ
  pub reached : Reaches arch x number
  pub follows : Behind arch h number
  pub from : (frame_in entries number).param ≤ a
  pub before : a < (frame_in entries number).end

-- the buffer b is one of a handler behind h
pub record InBuffers (arch : Arch) (x : ℕ) (entries : List Entry) (h b : ℕ) : Type 0 where
  pub number : ℕ
  pub reached : Reaches arch x number
  pub follows : Behind arch h number
  pub from : (frame_in entries number).first_buffer ≤ b
  pub before : b < buffers_end arch entries number

-- what the code of h may change: of its own frame only what stands behind its message
abbrev pub Touched : Arch → ℕ → List Entry → ℕ → ℕ → Type 0
Touched arch x entries h a = InFrames arch x entries h a ⊎ InOwn arch entries h a

abbrev pub TouchedBuffers : Arch → ℕ → List Entry → ℕ → ℕ → Type 0
TouchedBuffers arch x entries h b = InBuffers arch x entries h b ⊎ OwnBuffers arch entries h b

-- the message, the word that counts messages, and the scratch words of a frame lie in it one behind the other
pub record HasParts (arch : Arch) (h : ℕ) (f : Frame) : Type 0 where
  pub message : f.param + message_words arch (handler arch h).on ≤ f.temps
  pub counter : f.temps + 2 < f.end
  pub scratch : (k : ℕ) (e : Emitter) → slice_get (handler arch h).emitters k ≡ Some e
      → (f.temps + 3 ≤ slice_index_or f.scratch k 0) × (slice_index_or f.scratch k 0 + emitter_words arch e ≤ f.end)

-- what begins at a and ends before b, and what begins at c and ends before d, do not overlap
abbrev pub AreApart : ℕ → ℕ → ℕ → ℕ → Type 0
AreApart a b c d = (b ≤ c) ⊎ (d ≤ a)

-- the buffer of an emitter, as the table has it
abbrev pub buffer_for : Arch → Emitter → Buffer
buffer_for arch e = record { width = emitter_words arch e; bound = e.bound }

-- each handler that the task of source x reaches has a frame and buffers of its own
pub record IsFramed (arch : Arch) (p : Program) (t : Task) (x : ℕ) (entries : List Entry) : Type 0 where
  pub parts : (h : ℕ) → Reaches arch x h → HasParts arch h (frame_in entries h)
  pub room : (h : ℕ) → Reaches arch x h → (frame_in entries h).end ≤ t.room
  pub apart : (h k : ℕ) → Reaches arch x h → Reaches arch x k → h ≢ k
      → AreApart (frame_in entries h).param (frame_in entries h).end (frame_in entries k).param (frame_in entries k).end
  pub buffers_apart : (h k : ℕ) → Reaches arch x h → Reaches arch x k → h ≢ k
      → AreApart (frame_in entries h).first_buffer (buffers_end arch entries h) (frame_in entries k).first_buffer (buffers_end arch entries k)
  pub tables : (h k : ℕ) (e : Emitter) → Reaches arch x h → slice_get (handler arch h).emitters k ≡ Some e
      → slice_get t.buffers ((frame_in entries h).first_buffer + k) ≡ Some (buffer_for arch e)
  pub outputs : (o : ℕ) → o < length arch.outputs → slice_index p.outputs o ≡ message_words arch (on.Channel (output arch o).channel)
  -- counts of messages are 64-bit numbers
  pub few : (b : ℕ) (s : Buffer) → slice_get t.buffers b ≡ Some s → s.bound + 1 < 2 ^ 64

-- the task is at the entry of k, which has been called with the message in its frame
pub record Entered (t : Task) (entries : List Entry) (k : ℕ) (v : Value) (u : Own) : Type 0 where
  pub caller : ℕ
  pub earlier : List ℕ
  pub calls : u.calls ≡ caller ∷ earlier
  pub is_at : u.place ≡ place_in entries k
  pub stack : u.stack ≡ []
  pub free : u.held ≡ None
  pub formed : IsFormed t u
  pub message : HoldWords u.words (frame_in entries k).param (flat v)

-- the task is back where it was called from
pub record Returned (t : Task) (Touch TouchB : ℕ → Type 0) (u o : Own) : Type 0 where
  pub back : (to : ℕ) (rest : List ℕ) → u.calls ≡ to ∷ rest → (o.place ≡ to) × (o.calls ≡ rest)
  pub stack : o.stack ≡ []
  pub free : o.held ≡ None
  pub formed : IsFormed t o
  pub changed : ChangesOnly Touch TouchB u o

-- Wherever k is called with a message that fits, and so many calls are open at most, its code carries out its item with
-- all that follows, in at most its cost. It comes back to its caller, and changes only words and buffers that it may.
abbrev pub Carries : Arch → Program → Task → ℕ → List Entry → ℕ → (Touch TouchB : ℕ → Type 0) → ℕ → ℕ → Type 0
Carries arch p t x entries calls Touch TouchB cost k =
    (v : Value) → fits_item arch (to.Handler k, v) ≡ true → (u : Own) → Entered t entries k v u → length u.calls ≤ calls
    → Visits (setting_of arch) p t x (λ o. o ≡ u) ((to.Handler k, v) ∷ []) cost (Returned t Touch TouchB u)

-- the task is at a place, with the calls of u, an empty operand stack and no lock, and has changed only what it may
pub record Going (t : Task) (May MayB : ℕ → Type 0) (u : Own) (place : ℕ) (o : Own) : Type 0 where
  pub is_at : o.place ≡ place
  pub calls : o.calls ≡ u.calls
  pub stack : o.stack ≡ []
  pub free : o.held ≡ None
  pub formed : IsFormed t o
  pub changed : ChangesOnly May MayB u o
