-- The line of a mark, judged.
use Rattle.std.specs.Prelude.{◌≡◌, ℕ, List, [], ◌∷◌, Bool, true, false, cond, codes, bytes_eq, Option, Some, None, is_some, Result, Ok, Err}
use Rattle.tower_syntax.specs.declared.event.Mark.{Mark}
use Rattle.tower_syntax.specs.declared.event.Mark.TheVariants as mark
use Rattle.tower_syntax.specs.Arch.{Arch}
use Rattle.tower_reader.specs.Words.{number_in}
use Rattle.event_record.specs.declared.order.Act.{Act}
use Rattle.event_record.specs.declared.order.Act.TheVariants as act
use Rattle.event_record.specs.declared.order.OrderKind.{OrderKind}
use Rattle.event_record.specs.declared.order.OrderKind.TheVariants as wrong
use Rattle.event_record.specs.declared.order.OrderFault.{OrderFault}
use Rattle.event_record.specs.declared.order.OrderFault.TheVariants as fault
use Rattle.event_record.specs.Lines.{Bytes, words}
use Rattle.event_record.specs.Order.{Form, arrives, marked, is_passed_over, instruction_limit, source_named, mark_of}
use Rattle.event_record.specs.Judged.{Judged, makes, is_wrong, verdict}

abbrev pub act_of : Bytes → Option Act
act_of w =
    cond (bytes_eq w (codes "s")) (Some act.Starts)
    (cond (bytes_eq w (codes "r")) (Some act.Runs)
    (cond (bytes_eq w (codes "o")) (Some act.Puts) None))

abbrev pub arrives_alone : List Bytes → Option Form
arrives_alone [] = Some arrives
arrives_alone (w ∷ ws) = None

abbrev pub marked_by : Option Act → List Bytes → Option Form
marked_by None ws = None
marked_by (Some a) [] = None
marked_by (Some a) (name ∷ []) = Some (marked a name)
marked_by (Some a) (name ∷ more ∷ ws) = None

-- the mark that words spell
abbrev pub bare_form : List Bytes → Option Form
bare_form [] = None
bare_form (w ∷ ws) = cond (bytes_eq w (codes "a")) (arrives_alone ws) (marked_by (act_of w) ws)

abbrev pub is_count : Bytes → Bool
is_count w = is_some (number_in 0 instruction_limit w)

-- the same, where a number of instructions may come first
abbrev pub form_of : List Bytes → Option Form
form_of [] = None
form_of (w ∷ ws) = cond (is_count w) (bare_form ws) (bare_form (w ∷ ws))

abbrev pub judged_source : Act → Option ℕ → Judged Mark OrderKind
judged_source a None = is_wrong wrong.Name
judged_source a (Some x) = makes (mark_of a x ∷ [])

abbrev pub judged_form : Arch → Option Form → Judged Mark OrderKind
judged_form arch None = is_wrong wrong.Line
judged_form arch (Some arrives) = makes (mark.Arrive ∷ [])
judged_form arch (Some (marked a name)) = judged_source a (source_named arch name)

abbrev pub judge_words : Arch → List Bytes → Judged Mark OrderKind
judge_words arch ws = cond (is_passed_over ws) (makes []) (judged_form arch (form_of ws))

abbrev pub judge_mark : Arch → Bytes → Judged Mark OrderKind
judge_mark arch l = judge_words arch (words l)

abbrev pub over_marks : ℕ → Option OrderKind
over_marks n = None

abbrev pub order_verdict : Arch → Bytes → Result (List Mark) (ℕ × OrderKind)
order_verdict arch text = verdict (judge_mark arch) over_marks wrong.Long text

-- the fault that is told, where memory was not wanting
abbrev pub IsTold : Result (List Mark) (ℕ × OrderKind) → OrderFault → Type 0
IsTold answer (fault.At n k) = answer ≡ Err (n, k)
IsTold answer fault.NoMemory = Unit {0}
