-- Orders, lists of marks: what a line makes, and how it is wrong.
use Rattle.std.specs.Prelude.{◌≡◌, ◌<◌, ℕ, List, [], ◌∷◌, Bool, true, false, ◌||◌, codes, bytes_eq, position, length, Option, Some, None}
use Rattle.std.specs.List.{list_any}
use Rattle.tower_syntax.specs.declared.event.Mark.{Mark}
use Rattle.tower_syntax.specs.declared.event.Mark.TheVariants as mark
use Rattle.tower_syntax.specs.Arch.{Arch, Source}
use Rattle.event_record.specs.declared.order.Act.{Act}
use Rattle.event_record.specs.declared.order.Act.TheVariants.{Starts, Runs, Puts}
use Rattle.event_record.specs.declared.order.OrderKind.{OrderKind}
use Rattle.event_record.specs.declared.order.OrderKind.TheVariants as wrong
use Rattle.event_record.specs.declared.order.OrderFault.{OrderFault}
use Rattle.event_record.specs.declared.order.OrderFault.TheVariants as fault
use Rattle.event_record.specs.Lines.{Bytes, words, begins_with}
use Rattle.event_record.specs.Numbers.{IsWithin}
use Rattle.event_record.specs.Format.{Format, Spells, IsFirst}

-- ---- lines that are passed over

-- the first words of the lines of a run's or a replay's text that are no marks
abbrev pub state_lines : List Bytes
state_lines = codes "out" ∷ codes "state" ∷ codes "held" ∷ codes "lost" ∷ []

abbrev pub replay_lines : List Bytes
replay_lines = codes "waiting" ∷ codes "pending" ∷ codes "misfit" ∷ []

abbrev pub rule_lines : List Bytes
rule_lines = codes "waits" ∷ codes "core" ∷ []

abbrev pub end_lines : List Bytes
end_lines = codes "count" ∷ codes "done" ∷ codes "stopped" ∷ []

abbrev pub is_among : List Bytes → Bytes → Bool
is_among firsts w = list_any (λ first. bytes_eq w first) firsts

abbrev pub begins_other_line : Bytes → Bool
begins_other_line w = is_among state_lines w || is_among replay_lines w || is_among rule_lines w || is_among end_lines w

-- words of a line that is passed over
abbrev pub is_passed_over : List Bytes → Bool
is_passed_over [] = true
is_passed_over (w ∷ ws) = begins_with 0x3B w || begins_other_line w

-- ---- forms

-- an arrival, or a mark of the source with a name
pub data Form : Type 0 where
  arrives : Form
  marked : Act → Bytes → Form

pub data SpellsMark : List Bytes → Form → Type 0 where
  a_arrives : SpellsMark (codes "a" ∷ []) arrives
  s_starts : {name : Bytes} → SpellsMark (codes "s" ∷ name ∷ []) (marked Starts name)
  r_runs : {name : Bytes} → SpellsMark (codes "r" ∷ name ∷ []) (marked Runs name)
  o_puts : {name : Bytes} → SpellsMark (codes "o" ∷ name ∷ []) (marked Puts name)

abbrev pub instruction_limit : ℕ
instruction_limit = 1000000000

-- the words of a mark, with a number of instructions before it or none
pub data HasForm : List Bytes → Form → Type 0 where
  bare : {ws : List Bytes} {f : Form} → SpellsMark ws f → HasForm ws f
  numbered : {count : Bytes} {n : ℕ} {ws : List Bytes} {f : Form} → IsWithin 0 instruction_limit count n → SpellsMark ws f → HasForm (count ∷ ws) f

-- ---- sources

-- the number of the source with this name
abbrev pub source_at : List Source → Bytes → Option ℕ
source_at sources name = position (λ s. bytes_eq s.name name) sources

abbrev pub source_named : Arch → Bytes → Option ℕ
source_named arch name = source_at arch.sources name

abbrev pub mark_of : Act → ℕ → Mark
mark_of Starts x = mark.Start x
mark_of Runs x = mark.Run x
mark_of Puts x = mark.Out x

-- ---- lines

pub data MakesMarks (arch : Arch) (l : Bytes) : List Mark → Type 0 where
  nothing : is_passed_over (words l) ≡ true → MakesMarks arch l []
  an_arrival : is_passed_over (words l) ≡ false → HasForm (words l) arrives → MakesMarks arch l (mark.Arrive ∷ [])
  one_mark : {act : Act} {name : Bytes} {x : ℕ} → is_passed_over (words l) ≡ false → HasForm (words l) (marked act name) → source_named arch name ≡ Some x → MakesMarks arch l (mark_of act x ∷ [])

pub data IsWrongMark (arch : Arch) (l : Bytes) : OrderKind → Type 0 where
  no_form : is_passed_over (words l) ≡ false → ((f : Form) → HasForm (words l) f → ⊥) → IsWrongMark arch l wrong.Line
  no_source : {act : Act} {name : Bytes} → is_passed_over (words l) ≡ false → HasForm (words l) (marked act name) → source_named arch name ≡ None → IsWrongMark arch l wrong.Name

-- an order may have any number of marks
abbrev pub AreTooManyMarks : ℕ → OrderKind → Type 0
AreTooManyMarks n k = ⊥

-- the order of the kinds
abbrev pub rank : OrderKind → ℕ
rank wrong.Long = 0
rank wrong.Line = 1
rank wrong.Name = 2

-- ---- texts

abbrev pub order_format : Arch → Format Mark OrderKind
order_format arch = record { Makes = MakesMarks arch; IsWrong = IsWrongMark arch; AreTooMany = AreTooManyMarks; long = wrong.Long; rank = rank }

abbrev pub SpellsOrder : Arch → Bytes → List Mark → Type 0
SpellsOrder arch text marks = Spells (order_format arch) text marks

-- the fault of the text, where memory was not wanting
abbrev pub IsOrderFault : Arch → Bytes → OrderFault → Type 0
IsOrderFault arch text (fault.At n k) = IsFirst (order_format arch) text n k
IsOrderFault arch text fault.NoMemory = Unit {0}

-- ---- what is in range

-- the source of the mark exists
abbrev pub NamesSource : Arch → Mark → Type 0
NamesSource arch mark.Arrive = Unit {0}
NamesSource arch (mark.Start x) = x < length arch.sources
NamesSource arch (mark.Run x) = x < length arch.sources
NamesSource arch (mark.Out x) = x < length arch.sources
