use Rattle.std.proofs.Common.{sym, FitsSigned}
use Rattle.std.specs.Int.{w128}
use Rattle.std.proofs.lemmas.Int.{to_z-of_z}
use Rattle.task_machine.proofs.Combinators.{need_true, need_false, is_below, is_not_below}
use Rattle.task_machine.proofs.execute.push.Goals as goal

pub returns-then-is_stack_full-clause-effect : goal.returns-then-is_stack_full-clause-effect
returns-then-is_stack_full-clause-effect c =
    sym (need_false _ _ (is_not_below _ _ c.if-is_stack_full.ensures))

pub returns-else-is_stack_full-clause-effect : goal.returns-else-is_stack_full-clause-effect
returns-else-is_stack_full-clause-effect c =
    let fit : FitsSigned w128 c.args.word = c.ranges.word in
    simp to_z-of_z (sym (need_true _ _ (is_below _ _ c.if-is_stack_full.ensures)))
