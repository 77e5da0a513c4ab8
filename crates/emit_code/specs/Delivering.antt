-- What the code of a delivery does.
use Rattle.std.specs.Prelude.{◌≡◌, ◌⊎◌, ℕ, ◌+◌, ◌<◌, ◌≤◌, ◌*◌, true, List, [], length, map, sum, Some, None, All, slice_get, slice_index_or}
use Rattle.tower_types.specs.Value.{Value}
use Rattle.tower_syntax.specs.declared.arch.On.TheVariants as on
use Rattle.tower_syntax.specs.Arch.{Arch, Emitter}
use Rattle.tower_syntax.specs.Graph.{handler, subs, leads, Reaches}
use Rattle.tower_syntax.specs.WellNumbered.{AreListeners}
use Rattle.tower_syntax.specs.Weights.{emitter_words, emitter_weight}
use Rattle.tower_meaning.specs.System.{follow_from}
use Rattle.tower_meaning.specs.Fits.{fits_item}
use Rattle.task_code.specs.declared.program.Task.{Task}
use Rattle.task_code.specs.declared.frame.Frame.{Frame}
use Rattle.task_code.specs.Program.{Program}
use Rattle.task_code.specs.Own.{Filled, Own}
use Rattle.task_code.specs.Leads.{Leads}
use Rattle.task_code.specs.Emission.{emission}
use Rattle.task_code.specs.Emitting.{emitted}
use Rattle.task_code.specs.Formed.{IsFormed}
use Rattle.task_code.specs.Holds.{HoldLists, buffers_at}
use Rattle.task_code.specs.Piece.{end, listed, Stands}
use Rattle.task_alone.specs.Visits.{Visits}
use Rattle.task_alone.specs.SettingOf.{setting_of, numbers_from}
use Rattle.emit_code.specs.Delivery.{Entry, delivery_code}
use Rattle.emit_code.specs.Entries.{frame_in, NoneComesBack, InFrame, InFrames, InBuffers, Touched, TouchedBuffers, IsFramed, Carries, Going}

-- words and buffers of k, and of the handlers behind it
abbrev pub OfEntry : Arch → ℕ → List Entry → ℕ → ℕ → Type 0
OfEntry arch x entries k a = InFrames arch x entries k a ⊎ InFrame entries k a

-- the delivery of h begins: its buffers hold the lists of its emitters, and two more calls have room
pub record BeginsDelivery (arch : Arch) (t : Task) (entries : List Entry) (h : ℕ) (lists : List (List Value)) (u : Own) : Type 0 where
  pub stack : u.stack ≡ []
  pub free : u.held ≡ None
  pub formed : IsFormed t u
  pub calls : length u.calls + 2 ≤ 256
  pub filled : HoldLists (buffers_at u (numbers_from (frame_in entries h).first_buffer (length (handler arch h).emitters))) lists

-- the code of the delivery of h
abbrev pub DeliveryStands : Arch → Task → List Entry → ℕ → ℕ → Type 0
DeliveryStands arch t entries h a = Stands t.code a (delivery_code arch entries (frame_in entries h) a 0 (handler arch h).emitters)

abbrev pub delivery_end : Arch → List Entry → ℕ → ℕ → ℕ
delivery_end arch entries h a = end a (delivery_code arch entries (frame_in entries h) a 0 (handler arch h).emitters)

-- the entry of each handler that h leads to carries out its item at a cost, where at most so many calls are open
abbrev pub EachCarries : Arch → Program → Task → ℕ → List Entry → ℕ → (ℕ → ℕ) → ℕ → Type 0
EachCarries arch p t x entries calls cost h =
    (k : ℕ) → leads arch h k ≡ true
    → Carries arch p t x entries calls (OfEntry arch x entries k) (TouchedBuffers arch x entries k) (cost k) k

-- If each entry does so with at most two more calls open than at u, the delivery visits from u all that follows, in its
-- order. It takes what the weight says of that cost, leaves both stacks as they were and no lock held, and changes only
-- words of the frame of h behind its message, and words and buffers of handlers behind h.
abbrev pub DeliveryVisits : Type 0
DeliveryVisits =
    (arch : Arch) (p : Program) (t : Task) (x : ℕ) (entries : List Entry) (h : ℕ) (cost : ℕ → ℕ) (lists : List (List Value)) (u : Own)
    → AreListeners arch → Reaches arch x h → NoneComesBack arch x → IsFramed arch p t x entries → DeliveryStands arch t entries h u.place
    → EachCarries arch p t x entries (length u.calls + 2) cost h
    → BeginsDelivery arch t entries h lists u → All (λ q. fits_item arch q ≡ true) (follow_from arch (handler arch h).emitters lists)
    → Visits (setting_of arch) p t x (λ o. o ≡ u) ((setting_of arch).system.follow h lists) (sum (map (emitter_weight arch cost) (handler arch h).emitters))
    (Going t (Touched arch x entries h) (InBuffers arch x entries h) u (delivery_end arch entries h u.place))

-- at most 32 instructions for each emitter, and 40 + 24 w for each subscriber of its channel
abbrev pub delivery_length : Arch → List Emitter → ℕ
delivery_length arch es = sum (map (λ e. 32 + (40 + 24 * emitter_words arch e) * length (subs arch (on.Channel e.channel))) es)

abbrev pub DeliveryIsShort : Type 0
DeliveryIsShort =
    (arch : Arch) (entries : List Entry) (f : Frame) (a : ℕ) (es : List Emitter) → length (listed (delivery_code arch entries f a 0 es)) ≤ delivery_length arch es

-- where the scratch words of emitter k of h begin, and its buffer
abbrev pub scratch_in : List Entry → ℕ → ℕ → ℕ
scratch_in entries h k = slice_index_or (frame_in entries h).scratch k 0

abbrev pub buffer_in : List Entry → ℕ → ℕ → ℕ
buffer_in entries h k = (frame_in entries h).first_buffer + k

-- Where the buffer of emitter k of h is not full and the operand stack has room for 8 words, the emission of its scratch
-- words puts one message into its buffer, in 3 w + 1 instructions, and changes nothing else.
abbrev pub EmitterEmits : Type 0
EmitterEmits =
    (arch : Arch) (p : Program) (t : Task) (x : ℕ) (entries : List Entry) (h k : ℕ) (e : Emitter) (f : Filled) (o : Own)
    → IsFramed arch p t x entries → Reaches arch x h → slice_get (handler arch h).emitters k ≡ Some e → IsFormed t o
    → slice_get o.buffers (buffer_in entries h k) ≡ Some f → f.count < e.bound → length o.stack + 8 ≤ 64
    → Stands t.code o.place (emission (scratch_in entries h k) (buffer_in entries h k) (emitter_words arch e))
    → Leads p t (3 * emitter_words arch e + 1) o (emitted (scratch_in entries h k) (buffer_in entries h k) (emitter_words arch e) o f)
