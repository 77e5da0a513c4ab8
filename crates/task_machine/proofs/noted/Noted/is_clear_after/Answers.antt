use Rattle.std.proofs.Common.{◌≡◌, ℕ, ◌+◌, ◌<◌, ◌/◌, List, Bool, false, true, length, Some, None, slice_get, slice_set, arith, sym, ap, ◌∙◌, subst}
use Rattle.task_machine.proofs.Stands.{get_exists}
use Rattle.task_machine.proofs.Settling.{not_clear}
use Rattle.task_machine.proofs.noted.Noted.is_clear_after.Goals as goal

pub returns-else-is_clear : goal.returns-else-is_clear
returns-else-is_clear c =
    let s = c.args.running.now in
    let t = get_exists s.program.tasks c.args.x c.requires.task in
    let own = get_exists s.machine.tasks c.args.x c.is_clear.ensures.part in
    c.if-is_clear.false
    ∙ sym (not_clear s c.args.x t.0 own.0 t.1 own.1 (sym c.if-is_init.ensures) c.is_clear.ensures.queue (sym (c.is_clear.ensures.clear t.0 own.0 t.1 own.1) ∙ c.if-is_clear.false))
