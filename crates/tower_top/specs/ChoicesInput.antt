-- Scheduling choices, of at most 16,777,216 bytes.
use Rattle.std.specs.Prelude.{◌≡◌, ℕ, List, [], Option, Some, None, Result, Ok, Err, codes}
use Rattle.tower_syntax.specs.declared.event.Choice.{Choice}
use Rattle.event_record.specs.declared.choices.ChoiceKind.{ChoiceKind}
use Rattle.event_record.specs.declared.choices.ChoiceKind.TheVariants as kind
use Rattle.event_record.specs.declared.choices.ChoiceFault.TheVariants as fault
use Rattle.event_record.specs.Choices.{SpellsChoices, IsChoiceFault}
use Rattle.tower_report.specs.Bytes.{Bytes}
use Rattle.tower_report.specs.RefusalText.{bad_line}
use Rattle.tower_top.specs.declared.status.Status.{Status}
use Rattle.tower_top.specs.declared.status.Status.TheVariants.{BadInput}
use Rattle.tower_top.specs.Calls.{ShelfTold, SinkTold, Change, IsSame}
use Rattle.tower_top.specs.Requests.{Input}
use Rattle.tower_top.specs.Endings.{Reads}

abbrev pub kind_text : ChoiceKind → Bytes
kind_text kind.Long = codes "long"
kind_text kind.Line = codes "line"
kind_text kind.Many = codes "many"

-- the text has this fault, and the line tells it
pub record AreBadChoices (text : List ℕ) (line : Bytes) : Type 0 where
  pub at : ℕ
  pub kind : ChoiceKind
  pub fault : IsChoiceFault text (fault.At at kind)
  pub tells : line ≡ bad_line (codes "choices") at (kind_text kind)

abbrev pub choices_input : List ℕ → Input
choices_input name = record { name = name; Value = List Choice; IsValid = SpellsChoices; IsWrong = AreBadChoices; status = BadInput }

-- reading the choices of the text with this name, of which the program has the items; there are none where no name is given
abbrev pub ReadsGivenChoices : {T : Type 0} → (T → List Choice) → Option (List ℕ) → Change ShelfTold → Change SinkTold → Result T Status → Type 0
ReadsGivenChoices items None shelf err (Ok x) = (items x ≡ []) × IsSame shelf × IsSame err
ReadsGivenChoices items None shelf err (Err status) = ⊥
ReadsGivenChoices items (Some name) shelf err result = Reads (choices_input name) items shelf err result
