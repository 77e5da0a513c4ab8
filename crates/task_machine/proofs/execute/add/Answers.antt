use Rattle.std.proofs.Common.{sym, ◌∙◌, arith, add-one}
use Rattle.task_machine.proofs.Combinators.{need_true, need_false, is_under, is_not_under}
use Rattle.task_machine.proofs.execute.add.Goals as goal

pub returns-then-count-shape-clause-effect : goal.returns-then-count-shape-clause-effect
returns-then-count-shape-clause-effect c =
    let n = c.in_ok-shape.ensures.count in
    sym (c.in_ok-shape.ensures.some _ ∙ need_false _ _ (is_not_under _ _ (rw n (omega arith))))

pub returns-clause-effect : goal.returns-clause-effect
returns-clause-effect c =
    let n = c.in_ok-shape.ensures.count in
    rw (add-one, ← n) (sym (c.in_ok-shape.ensures.some _ ∙ need_true _ _ (is_under _ _ (rw n (omega arith)))))
