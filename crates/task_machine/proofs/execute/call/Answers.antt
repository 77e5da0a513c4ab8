use Rattle.std.proofs.Common.{sym}
use Rattle.task_machine.proofs.Combinators.{need_true, need_false, is_below, is_not_below}
use Rattle.task_machine.proofs.execute.call.Goals as goal

pub returns-then-is_calls_full-clause-effect : goal.returns-then-is_calls_full-clause-effect
returns-then-is_calls_full-clause-effect c =
    sym (need_false _ _ (is_not_below _ _ c.if-is_calls_full.ensures))

pub returns-else-is_calls_full-clause-effect : goal.returns-else-is_calls_full-clause-effect
returns-else-is_calls_full-clause-effect c =
    sym (need_true _ _ (is_below _ _ c.if-is_calls_full.ensures))
