use Rattle.std.proofs.Common.{◌≡◌, ◌∙◌, ap, refl}
use Rattle.tower_report.specs.RefusalText.{unread_line}
use Rattle.tower_report.proofs.Puts.{Puts-same}
use Rattle.tower_top.specs.Inputs.{file_input}
use Rattle.tower_top.proofs.Endings.{wrong_stops, unread_stops, memory_stops}
use Rattle.tower_top.proofs.file.read_file.Goals as goal

pub returns-in-Valid : goal.returns-in-Valid
returns-in-Valid g c =
    let h = c.in-Valid.ensures in
    (record { text = h.0.text; is_held = h.0.is_held; valid = h.0.is }, h.1, refl)

pub returns-in-Wrong : goal.returns-in-Wrong
returns-in-Wrong g c =
    let h = c.in-Wrong.ensures in
    rw c.after.ensures
    (wrong_stops (file_input c.args.name.now) c.put_fault.result (λ p call a. a)
    (record { text = h.0.text; is_held = h.0.is_held; wrong = (c.in-Wrong.fault, h.0.is, refl) }) h.1 c.put_fault.ensures)

pub returns-in-Unread : goal.returns-in-Unread
returns-in-Unread g c =
    rw c.after-in-Unread.ensures
    (unread_stops (file_input c.args.name.now) c.put_unread.result c.in-Unread.ensures
    (Puts-same (ap unread_line (c.blamed.ensures ∙ c.in-Unread.ensures.blames)) c.put_unread.ensures))

pub returns-in-NoMemory : goal.returns-in-NoMemory
returns-in-NoMemory g c = memory_stops (file_input c.args.name.now) _ _ c.in-NoMemory.ensures refl
