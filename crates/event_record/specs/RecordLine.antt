-- The line of an entry, judged.
use Rattle.std.specs.Prelude.{◌≡◌, ℕ, List, [], ◌∷◌, Bool, true, false, cond, nat_lt, codes, bytes_eq, replicate, Option, Some, None, Result, Ok, Err, option_map, slice_get, map}
use Rattle.tower_types.specs.Ty.{shape_of}
use Rattle.tower_types.specs.Value.{Value}
use Rattle.tower_syntax.specs.Arch.{Arch, Source, Entry, tick, signal}
use Rattle.tower_syntax.specs.declared.event.Entry.{Entry as EntryValue}
use Rattle.tower_syntax.specs.View.{entry_of}
use Rattle.tower_reader.specs.Words.{number_in}
use Rattle.event_record.specs.declared.record.RecordKind.{RecordKind}
use Rattle.event_record.specs.declared.record.RecordKind.TheVariants as wrong
use Rattle.event_record.specs.declared.record.RecordFault.{RecordFault}
use Rattle.event_record.specs.declared.record.RecordFault.TheVariants as fault
use Rattle.event_record.specs.Lines.{Bytes, words, behind_word, say_nothing}
use Rattle.event_record.specs.Tokens.{tokens}
use Rattle.event_record.specs.Record.{entry_limit, signal_named}
use Rattle.event_record.specs.Scanned.{makes_value, take_value, whole_value}
use Rattle.event_record.specs.Judged.{Judged, makes, is_wrong, with_line, added_or, verdict}

-- what a line is by itself: so many ticks, a signal by its name with the text of a value, or no entry
pub data Said : Type 0 where
  nothing : Said
  ticks : ℕ → Said
  brings : Bytes → Bytes → Said
  no_form : Said

abbrev pub ticks_by : Option ℕ → Said
ticks_by None = no_form
ticks_by (Some n) = ticks n

abbrev pub tick_form : List Bytes → Said
tick_form [] = ticks 1
tick_form (n ∷ []) = ticks_by (number_in 1 entry_limit n)
tick_form (n ∷ more ∷ ws) = no_form

-- the words behind `sig`, and the text behind the first of them
abbrev pub sig_form : List Bytes → Bytes → Said
sig_form [] text = no_form
sig_form (name ∷ ws) text = cond (makes_value 0 false (tokens text)) (brings name text) no_form

abbrev pub form_by : List Bytes → Bytes → Said
form_by [] text = nothing
form_by (w ∷ ws) text = cond (bytes_eq w (codes "tick")) (tick_form ws) (cond (bytes_eq w (codes "sig")) (sig_form ws text) no_form)

-- what words say, where this text stands behind the second
abbrev pub said_by : List Bytes → Bytes → Said
said_by ws text = cond (say_nothing ws) nothing (form_by ws text)

abbrev pub said_of : Bytes → Said
said_of l = said_by (words l) (behind_word (behind_word l))

abbrev pub judged_value : ℕ → Option Value → Judged Entry RecordKind
judged_value x None = is_wrong wrong.Value
judged_value x (Some v) = makes (signal x v ∷ [])

-- the value of a text at the type of a source
abbrev pub value_for : Arch → Option Source → Bytes → Option Value
value_for arch None text = None
value_for arch (Some s) text = whole_value (take_value (shape_of arch.records s.message) (tokens text))

abbrev pub judged_signal : Arch → Option ℕ → Bytes → Judged Entry RecordKind
judged_signal arch None text = is_wrong wrong.Name
judged_signal arch (Some x) text = judged_value x (value_for arch (slice_get arch.sources x) text)

abbrev pub judged_said : Arch → Said → Judged Entry RecordKind
judged_said arch nothing = makes []
judged_said arch (ticks n) = makes (replicate n tick)
judged_said arch (brings name text) = judged_signal arch (signal_named arch name) text
judged_said arch no_form = is_wrong wrong.Line

abbrev pub judge_entry : Arch → Bytes → Judged Entry RecordKind
judge_entry arch l = judged_said arch (said_of l)

abbrev pub over_entries : ℕ → Option RecordKind
over_entries n = cond (nat_lt entry_limit n) (Some wrong.Many) None

-- these entries, or the kind of a fault
abbrev pub done_or : Option RecordKind → List EntryValue → Result (List Entry) RecordKind
done_or kind entries = added_or kind (map entry_of entries)

-- entries with those of a line, unless they are too many
abbrev pub with_said : List EntryValue → Judged Entry RecordKind → Result (List Entry) RecordKind
with_said entries said = with_line over_entries (map entry_of entries) said

abbrev pub record_verdict : Arch → Bytes → Result (List Entry) (ℕ × RecordKind)
record_verdict arch text = verdict (judge_entry arch) over_entries wrong.Long text

-- the fault that is told, where memory was not wanting
abbrev pub IsTold : Result (List Entry) (ℕ × RecordKind) → RecordFault → Type 0
IsTold answer (fault.At n k) = answer ≡ Err (n, k)
IsTold answer fault.NoMemory = Unit {0}
