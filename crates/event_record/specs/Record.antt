-- Event records: what a line makes, and how it is wrong.
use Rattle.std.specs.Prelude.{◌≡◌, ◌≤◌, ◌<◌, ℕ, List, [], ◌∷◌, Bool, true, false, ◌&&◌, codes, decimal, bytes_eq, position, map, replicate, Option, Some, None, slice_get}
use Rattle.tower_types.specs.Ty.{shape_of}
use Rattle.tower_types.specs.Value.{Value}
use Rattle.tower_syntax.specs.declared.arch.SourceKind.{SourceKind}
use Rattle.tower_syntax.specs.declared.arch.SourceKind.TheVariants as kind
use Rattle.tower_syntax.specs.Arch.{Arch, Source, Entry, tick, signal, Events}
use Rattle.event_record.specs.declared.record.RecordKind.{RecordKind}
use Rattle.event_record.specs.declared.record.RecordKind.TheVariants as wrong
use Rattle.event_record.specs.declared.record.RecordFault.{RecordFault}
use Rattle.event_record.specs.declared.record.RecordFault.TheVariants as fault
use Rattle.event_record.specs.Lines.{Bytes, words, behind_word, say_nothing}
use Rattle.event_record.specs.Numbers.{IsWithin}
use Rattle.event_record.specs.Written.{Written, IsValue, value_at}
use Rattle.event_record.specs.Format.{Format, Spells, IsFirst}

-- ---- forms

-- so many ticks, or a signal by its name with a value
pub data Form : Type 0 where
  ticks : ℕ → Form
  brings : Bytes → Written → Form

abbrev pub entry_limit : ℕ
entry_limit = 1000000

-- the line has the form
pub data HasForm (l : Bytes) : Form → Type 0 where
  one_tick : words l ≡ codes "tick" ∷ [] → HasForm l (ticks 1)
  some_ticks : {text : Bytes} {n : ℕ} → words l ≡ codes "tick" ∷ text ∷ [] → IsWithin 1 entry_limit text n → HasForm l (ticks n)
  -- the value is the rest of the line behind the name, which is any word
  a_signal : {name : Bytes} {more : List Bytes} {w : Written} → words l ≡ codes "sig" ∷ name ∷ more → IsValue (behind_word (behind_word l)) w → HasForm l (brings name w)

-- ---- signals

abbrev pub is_signal : SourceKind → Bool
is_signal kind.Signal = true
is_signal kind.Init = false
is_signal (kind.Period ms) = false

abbrev pub names_signal : Bytes → Source → Bool
names_signal name s = bytes_eq s.name name && is_signal s.kind

-- the number of the signal source with this name
abbrev pub signal_at : List Source → Bytes → Option ℕ
signal_at sources name = position (names_signal name) sources

abbrev pub signal_named : Arch → Bytes → Option ℕ
signal_named arch name = signal_at arch.sources name

-- ---- lines

pub data MakesEntries (arch : Arch) (l : Bytes) : List Entry → Type 0 where
  nothing : say_nothing (words l) ≡ true → MakesEntries arch l []
  so_many_ticks : {n : ℕ} → HasForm l (ticks n) → MakesEntries arch l (replicate n tick)
  one_signal : {name : Bytes} {w : Written} {x : ℕ} {s : Source} {v : Value} → HasForm l (brings name w) → signal_named arch name ≡ Some x → slice_get arch.sources x ≡ Some s
      → value_at (shape_of arch.records s.message) w ≡ Some v → MakesEntries arch l (signal x v ∷ [])

pub data IsWrongEntry (arch : Arch) (l : Bytes) : RecordKind → Type 0 where
  no_form : say_nothing (words l) ≡ false → ((f : Form) → HasForm l f → ⊥) → IsWrongEntry arch l wrong.Line
  no_signal : {name : Bytes} {w : Written} → HasForm l (brings name w) → signal_named arch name ≡ None → IsWrongEntry arch l wrong.Name
  misfit : {name : Bytes} {w : Written} {x : ℕ} {s : Source} → HasForm l (brings name w) → signal_named arch name ≡ Some x → slice_get arch.sources x ≡ Some s
      → value_at (shape_of arch.records s.message) w ≡ None → IsWrongEntry arch l wrong.Value

abbrev pub AreTooManyEntries : ℕ → RecordKind → Type 0
AreTooManyEntries n k = (entry_limit < n) × (k ≡ wrong.Many)

-- the order of the kinds
abbrev pub rank : RecordKind → ℕ
rank wrong.Long = 0
rank wrong.Line = 1
rank wrong.Name = 2
rank wrong.Value = 3
rank wrong.Many = 4

-- ---- texts

abbrev pub record_format : Arch → Format Entry RecordKind
record_format arch = record { Makes = MakesEntries arch; IsWrong = IsWrongEntry arch; AreTooMany = AreTooManyEntries; long = wrong.Long; rank = rank }

-- the text spells the events of the system
pub record SpellsRecord (arch : Arch) (text : Bytes) (events : Events) : Type 0 where
  pub kinds : events.kinds ≡ map (λ s. s.kind) arch.sources
  pub depths : events.depths ≡ map (λ s. s.depth) arch.sources
  pub entries : Spells (record_format arch) text events.entries

-- the fault of the text, where memory was not wanting
abbrev pub IsRecordFault : Arch → Bytes → RecordFault → Type 0
IsRecordFault arch text (fault.At n k) = IsFirst (record_format arch) text n k
IsRecordFault arch text fault.NoMemory = Unit {0}
