-- Scheduling choices: what a line makes, and how it is wrong.
use Rattle.std.specs.Prelude.{◌≡◌, ◌≤◌, ◌<◌, ℕ, List, [], ◌∷◌, true, false, codes}
use Rattle.tower_syntax.specs.declared.event.Choice.{Choice}
use Rattle.tower_syntax.specs.declared.event.Choice.TheVariants as choice
use Rattle.event_record.specs.declared.choices.ChoiceKind.{ChoiceKind}
use Rattle.event_record.specs.declared.choices.ChoiceKind.TheVariants as wrong
use Rattle.event_record.specs.declared.choices.ChoiceFault.{ChoiceFault}
use Rattle.event_record.specs.declared.choices.ChoiceFault.TheVariants as fault
use Rattle.event_record.specs.Lines.{Bytes, words, say_nothing}
use Rattle.event_record.specs.Numbers.{IsWithin}
use Rattle.event_record.specs.Format.{Format, Spells, IsFirst}

abbrev pub position_limit : ℕ
position_limit = 65535

abbrev pub repeat_limit : ℕ
repeat_limit = 1000000000

abbrev pub choice_limit : ℕ
choice_limit = 1000000

-- the words of a choice: a repeat count that is not written is 1
pub data SpellsChoice : List Bytes → Choice → Type 0 where
  go : {place : Bytes} {k : ℕ} → IsWithin 0 position_limit place k → SpellsChoice (codes "go" ∷ place ∷ []) (choice.Go k 1)
  go_often : {place times : Bytes} {k n : ℕ} → IsWithin 0 position_limit place k → IsWithin 1 repeat_limit times n → SpellsChoice (codes "go" ∷ place ∷ times ∷ []) (choice.Go k n)
  see : {place : Bytes} {k : ℕ} → IsWithin 0 position_limit place k → SpellsChoice (codes "see" ∷ place ∷ []) (choice.See k 1)
  see_often : {place times : Bytes} {k n : ℕ} → IsWithin 0 position_limit place k → IsWithin 1 repeat_limit times n → SpellsChoice (codes "see" ∷ place ∷ times ∷ []) (choice.See k n)
  ev : SpellsChoice (codes "ev" ∷ []) (choice.Ev 1)
  ev_often : {times : Bytes} {n : ℕ} → IsWithin 1 repeat_limit times n → SpellsChoice (codes "ev" ∷ times ∷ []) (choice.Ev n)
  idle : SpellsChoice (codes "idle" ∷ []) choice.Idle

-- ---- lines

pub data MakesChoices (l : Bytes) : List Choice → Type 0 where
  nothing : say_nothing (words l) ≡ true → MakesChoices l []
  one_choice : {c : Choice} → SpellsChoice (words l) c → MakesChoices l (c ∷ [])

pub data IsWrongChoice (l : Bytes) : ChoiceKind → Type 0 where
  no_choice : say_nothing (words l) ≡ false → ((c : Choice) → SpellsChoice (words l) c → ⊥) → IsWrongChoice l wrong.Line

abbrev pub AreTooManyChoices : ℕ → ChoiceKind → Type 0
AreTooManyChoices n k = (choice_limit < n) × (k ≡ wrong.Many)

-- the order of the kinds
abbrev pub rank : ChoiceKind → ℕ
rank wrong.Long = 0
rank wrong.Line = 1
rank wrong.Many = 2

-- ---- texts

abbrev pub choices_format : Format Choice ChoiceKind
choices_format = record { Makes = MakesChoices; IsWrong = IsWrongChoice; AreTooMany = AreTooManyChoices; long = wrong.Long; rank = rank }

abbrev pub SpellsChoices : Bytes → List Choice → Type 0
SpellsChoices text choices = Spells choices_format text choices

-- the fault of the text, where memory was not wanting
abbrev pub IsChoiceFault : Bytes → ChoiceFault → Type 0
IsChoiceFault text (fault.At n k) = IsFirst choices_format text n k
IsChoiceFault text fault.NoMemory = Unit {0}

-- ---- what is in range

abbrev pub IsOften : ℕ → Type 0
IsOften n = (1 ≤ n) × (n ≤ repeat_limit)

abbrev pub IsInRange : Choice → Type 0
IsInRange (choice.Go k n) = (k ≤ position_limit) × IsOften n
IsInRange (choice.See k n) = (k ≤ position_limit) × IsOften n
IsInRange (choice.Ev n) = IsOften n
IsInRange choice.Idle = Unit {0}
