use Rattle.std.proofs.Common.{sym, ◌∙◌, rules, FitsSigned}
use Rattle.std.specs.Int.{w128}
use Rattle.std.proofs.lemmas.Int.{to_z-of_z}
use Rattle.task_machine.proofs.Combinators.{popped_some, popped_none, need_true, need_false}
use Rattle.task_machine.proofs.execute.one_operand.Goals as goal

pub returns-in_err-a-clause-effect : goal.returns-in_err-a-clause-effect
returns-in_err-a-clause-effect c =
    rw c.from_residual.ensures (sym (popped_none _ _ (sym c.in_err-a.ensures.value)))

pub returns-then-not-applies_to-clause-effect : goal.returns-then-not-applies_to-clause-effect
returns-then-not-applies_to-clause-effect c =
    let fit_a : FitsSigned w128 c.in_ok-a.a = search rules in
    let t = simp to_z-of_z at c.if-not-applies_to.ensures in
    sym (popped_some _ _ _ (sym c.in_ok-a.ensures.value) ∙ need_false _ _ (sym t))

pub returns-clause-effect : goal.returns-clause-effect
returns-clause-effect c =
    let fit_a : FitsSigned w128 c.in_ok-a.a = search rules in
    let fit_word : FitsSigned w128 c.unary-word.result = search rules in
    let t = simp to_z-of_z at c.if-not-applies_to.ensures in
    let h = simp to_z-of_z at c.unary-word.ensures.value in
    simp to_z-of_z (rw h (sym (popped_some _ _ _ (sym c.in_ok-a.ensures.value) ∙ need_true _ _ (sym t))))
