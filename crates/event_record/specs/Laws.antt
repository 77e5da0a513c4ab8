-- The laws of the three texts.
use Rattle.std.specs.Prelude.{◌≡◌, ◌⊎◌, ℕ, List}
use Rattle.tower_syntax.specs.Arch.{Arch}
use Rattle.event_record.specs.Lines.{Bytes}
use Rattle.event_record.specs.Format.{Format, Spells, IsFirst}
use Rattle.event_record.specs.Record.{record_format}
use Rattle.event_record.specs.Choices.{choices_format}
use Rattle.event_record.specs.Order.{order_format}

-- a text spells one list or has one fault, and never both
pub record HasOneOutcome {A K : Type 0} (f : Format A K) (text : Bytes) : Type 0 where
  pub some : ((made : List A) × Spells f text made) ⊎ ((n : ℕ) × (k : K) × IsFirst f text n k)
  pub one_list : (made other : List A) → Spells f text made → Spells f text other → made ≡ other
  pub one_fault : (n m : ℕ) (k j : K) → IsFirst f text n k → IsFirst f text m j → (n ≡ m) × (k ≡ j)
  pub not_both : (made : List A) (n : ℕ) (k : K) → Spells f text made → IsFirst f text n k → ⊥

abbrev pub RecordsHaveOneOutcome : Type 0
RecordsHaveOneOutcome = (arch : Arch) (text : Bytes) → HasOneOutcome (record_format arch) text

abbrev pub ChoicesHaveOneOutcome : Type 0
ChoicesHaveOneOutcome = (text : Bytes) → HasOneOutcome choices_format text

abbrev pub OrdersHaveOneOutcome : Type 0
OrdersHaveOneOutcome = (arch : Arch) (text : Bytes) → HasOneOutcome (order_format arch) text
