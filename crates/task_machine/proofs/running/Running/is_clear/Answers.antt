use Rattle.std.proofs.Common.{◌≡◌, ℕ, ◌+◌, ◌<◌, ◌/◌, List, Bool, false, true, length, Some, None, slice_get, slice_set, arith, sym, ap, ◌∙◌, subst}
use Rattle.std.specs.Prelude.{not}
use Rattle.task_code.specs.Machine.{queue}
use Rattle.task_machine.proofs.Settling.{clear_by}
use Rattle.task_machine.proofs.running.Running.is_clear.Goals as goal

pub returns-then-is_at_take-clause-clear : goal.returns-then-is_at_take-clause-clear
returns-then-is_at_take-clause-clear c = λ t own e f.
    ap not c.has_message.ensures ∙ sym (clear_by t own (queue c.args.self.now.machine c.args.x) true (sym (c.is_at_take.ensures.at t own e f) ∙ c.if-is_at_take.true))

pub returns-else-is_at_take-clause-clear : goal.returns-else-is_at_take-clause-clear
returns-else-is_at_take-clause-clear c = λ t own e f.
    c.if-is_at_take.false ∙ sym (clear_by t own (queue c.args.self.now.machine c.args.x) false (sym (c.is_at_take.ensures.at t own e f) ∙ c.if-is_at_take.false))
