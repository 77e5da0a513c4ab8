-- What was read of a record is what the text spells, or its first fault.
use Rattle.std.proofs.Common.{◌≡◌, ◌≤◌, ℕ, List, [], refl, length}
use Rattle.std.specs.Prelude.{Ok}
use Rattle.tower_syntax.specs.Arch.{Arch, Entry}
use Rattle.event_record.specs.declared.record.RecordFault.{RecordFault}
use Rattle.event_record.specs.declared.record.RecordFault.TheVariants as fault
use Rattle.event_record.specs.Lines.{Bytes, lines}
use Rattle.event_record.specs.Format.{byte_limit, Spells}
use Rattle.event_record.specs.Judged.{walk}
use Rattle.event_record.specs.Record.{record_format, IsRecordFault}
use Rattle.event_record.specs.RecordLine.{judge_entry, over_entries, IsTold}
use Rattle.event_record.proofs.Exact.{spells, first_fault}
use Rattle.event_record.proofs.RecordAgree.{record_agrees}

pub record_spelled : (arch : Arch) (text : Bytes) (all : List Entry) → length text ≤ byte_limit → walk (judge_entry arch) over_entries 1 [] (lines text) ≡ Ok all → Spells (record_format arch) text all
record_spelled arch text all h w = spells (record_agrees arch) text all h refl w

pub record_told : (arch : Arch) (text : Bytes) (f : RecordFault) → length text ≤ byte_limit → IsTold (walk (judge_entry arch) over_entries 1 [] (lines text)) f → IsRecordFault arch text f
record_told arch text (fault.At n k) h w = first_fault (record_agrees arch) text n k h w
record_told arch text fault.NoMemory h w = tt
