-- The record of a system, of at most 16,777,216 bytes.
use Rattle.std.specs.Prelude.{◌≡◌, ℕ, List, codes}
use Rattle.tower_syntax.specs.Arch.{Arch, Events}
use Rattle.event_record.specs.declared.record.RecordKind.{RecordKind}
use Rattle.event_record.specs.declared.record.RecordKind.TheVariants as kind
use Rattle.event_record.specs.declared.record.RecordFault.TheVariants as fault
use Rattle.event_record.specs.Record.{SpellsRecord, IsRecordFault}
use Rattle.tower_report.specs.Bytes.{Bytes}
use Rattle.tower_report.specs.RefusalText.{bad_line}
use Rattle.tower_top.specs.declared.status.Status.TheVariants.{BadInput}
use Rattle.tower_top.specs.Requests.{Input}

abbrev pub kind_text : RecordKind → Bytes
kind_text kind.Long = codes "long"
kind_text kind.Line = codes "line"
kind_text kind.Name = codes "name"
kind_text kind.Value = codes "value"
kind_text kind.Many = codes "many"

-- the text has this fault, and the line tells it
pub record IsBadRecord (arch : Arch) (text : List ℕ) (line : Bytes) : Type 0 where
  pub at : ℕ
  pub kind : RecordKind
  pub fault : IsRecordFault arch text (fault.At at kind)
  pub tells : line ≡ bad_line (codes "record") at (kind_text kind)

abbrev pub record_input : Arch → List ℕ → Input
record_input arch name = record { name = name; Value = Events; IsValid = SpellsRecord arch; IsWrong = IsBadRecord arch; status = BadInput }
