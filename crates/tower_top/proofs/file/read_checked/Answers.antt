use Rattle.std.proofs.Common.{subst, sym}
use Rattle.arch_checks.specs.Offences.{IsFault}
use Rattle.arch_checks.proofs.Order.{read_fault}
use Rattle.tower_top.proofs.file.read_checked.Goals as goal

pub returns-in-Wrong : goal.returns-in-Wrong
returns-in-Wrong g c =
    let h = c.in-Wrong.ensures in
    (record { text = h.0.text; is_held = h.0.is_held; is = subst (IsFault h.0.text) (sym c.from.ensures) (read_fault h.0.text c.in-Wrong.fault h.0.is) }, h.1)

pub returns-in-Ok : goal.returns-in-Ok
returns-in-Ok g c =
    let h = c.in-Valid.ensures in
    (record { text = h.0.text; is_held = h.0.is_held; is = c.in-Ok.ensures.ok h.0.text h.0.is }, h.1)
