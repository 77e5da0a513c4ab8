use Rattle.std.proofs.Common.{◌∙◌, ap, codes, refl}
use Rattle.tower_report.specs.RefusalText.{bad_line, unread_line}
use Rattle.tower_report.proofs.Puts.{Puts-same}
use Rattle.tower_top.specs.RecordInput.{record_input, kind_text}
use Rattle.tower_top.proofs.Endings.{wrong_stops, unread_stops, memory_stops}
use Rattle.tower_top.proofs.events.read_events.Goals as goal

pub returns-in-Valid-clause-reads : goal.returns-in-Valid-clause-reads
returns-in-Valid-clause-reads g c =
    let h = c.in-Valid.ensures in
    (record { text = h.0.text; is_held = h.0.is_held; valid = h.0.is.0 }, h.1, refl)

pub returns-in-Valid-clause-fit : goal.returns-in-Valid-clause-fit
returns-in-Valid-clause-fit g c = c.in-Valid.ensures.0.is.1

pub returns-in-Wrong-clause-reads : goal.returns-in-Wrong-clause-reads
returns-in-Wrong-clause-reads g c =
    let h = c.in-Wrong.ensures in
    rw c.after.ensures
    (wrong_stops (record_input c.args.file.now c.args.name.now) c.put_bad.result (λ p call a. a)
    (record { text = h.0.text; is_held = h.0.is_held; wrong = record { at = c.in-Wrong.line; kind = c.in-Wrong.kind; fault = h.0.is; tells = refl } }) h.1
    (Puts-same (ap (bad_line (codes "record") c.in-Wrong.line) c.kind_text.ensures) c.put_bad.ensures))

pub returns-in-Unread-clause-reads : goal.returns-in-Unread-clause-reads
returns-in-Unread-clause-reads g c =
    rw c.after-in-Unread.ensures
    (unread_stops (record_input c.args.file.now c.args.name.now) c.put_unread.result c.in-Unread.ensures
    (Puts-same (ap unread_line (c.blamed.ensures ∙ c.in-Unread.ensures.blames)) c.put_unread.ensures))

pub returns-in-NoMemory-clause-reads : goal.returns-in-NoMemory-clause-reads
returns-in-NoMemory-clause-reads g c = memory_stops (record_input c.args.file.now c.args.name.now) _ _ c.in-NoMemory.ensures refl
