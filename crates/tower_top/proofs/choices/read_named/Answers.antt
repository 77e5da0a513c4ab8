use Rattle.std.proofs.Common.{◌∙◌, ap, codes, refl}
use Rattle.tower_report.specs.RefusalText.{bad_line, unread_line}
use Rattle.tower_report.proofs.Puts.{Puts-same}
use Rattle.tower_top.specs.ChoicesInput.{choices_input, kind_text}
use Rattle.tower_top.proofs.Endings.{wrong_stops, unread_stops, memory_stops}
use Rattle.tower_top.proofs.choices.read_named.Goals as goal

pub returns-in-Valid : goal.returns-in-Valid
returns-in-Valid g c =
    let h = c.in-Valid.ensures in
    (record { text = h.0.text; is_held = h.0.is_held; valid = h.0.is }, h.1, refl)

pub returns-in-Wrong : goal.returns-in-Wrong
returns-in-Wrong g c =
    let h = c.in-Wrong.ensures in
    rw c.after.ensures
    (wrong_stops (choices_input c.args.name.now) c.put_bad.result (λ p call a. a)
    (record { text = h.0.text; is_held = h.0.is_held; wrong = record { at = c.in-Wrong.line; kind = c.in-Wrong.kind; fault = h.0.is; tells = refl } }) h.1
    (Puts-same (ap (bad_line (codes "choices") c.in-Wrong.line) c.kind_text.ensures) c.put_bad.ensures))

pub returns-in-Unread : goal.returns-in-Unread
returns-in-Unread g c =
    rw c.after-in-Unread.ensures
    (unread_stops (choices_input c.args.name.now) c.put_unread.result c.in-Unread.ensures
    (Puts-same (ap unread_line (c.blamed.ensures ∙ c.in-Unread.ensures.blames)) c.put_unread.ensures))

pub returns-in-NoMemory : goal.returns-in-NoMemory
returns-in-NoMemory g c = memory_stops (choices_input c.args.name.now) _ _ c.in-NoMemory.ensures refl
