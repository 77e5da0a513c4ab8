use Rattle.std.proofs.Common.{◌≡◌, ◌≤◌, length, map, ap, ◌∙◌, arith}
use Rattle.tower_syntax.specs.View.{entry_of}
use Rattle.event_record.specs.Record.{record_format}
use Rattle.event_record.proofs.Exact.{long_first}
use Rattle.event_record.proofs.RecordRead.{record_spelled, record_told}
use Rattle.event_record.proofs.record.events_for.Goals as goal

pub returns-then-bytes-gt-BYTE_LIMIT-clause-fault : goal.returns-then-bytes-gt-BYTE_LIMIT-clause-fault
returns-then-bytes-gt-BYTE_LIMIT-clause-fault c = long_first (record_format c.args.arch.now) c.args.bytes.now c.if-bytes-gt-BYTE_LIMIT.true

pub returns-in-Err-clause-fault : goal.returns-in-Err-clause-fault
returns-in-Err-clause-fault c = record_told c.args.arch.now c.args.bytes.now c.in-Err.fault (omega arith) c.in-Err.ensures.fault

pub returns-clause-ok : goal.returns-clause-ok
returns-clause-ok c = record {
  kinds = c.in_ok-kinds.ensures ∙ ap (map (λ s. s.kind)) c.sources.ensures.value;
  depths = c.in_ok-depths.ensures ∙ ap (map (λ s. s.depth)) c.sources-2.ensures.value;
  entries = record_spelled c.args.arch.now c.args.bytes.now _ (omega arith) c.in-Ok.ensures.ok;
}
