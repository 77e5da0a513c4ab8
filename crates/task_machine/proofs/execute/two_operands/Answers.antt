use Rattle.std.proofs.Common.{sym, ◌∙◌, rules, FitsSigned}
use Rattle.std.specs.Int.{w128}
use Rattle.std.proofs.lemmas.Int.{to_z-of_z}
use Rattle.task_machine.proofs.Combinators.{popped_two, popped_none, popped_two_none, need_true, need_false}
use Rattle.task_machine.proofs.execute.two_operands.Goals as goal

pub returns-in_err-a-clause-effect : goal.returns-in_err-a-clause-effect
returns-in_err-a-clause-effect c =
    rw c.from_residual.ensures (sym (popped_two_none _ _ (sym c.in_err-a.ensures.value)))

pub returns-in_err-b-clause-effect : goal.returns-in_err-b-clause-effect
returns-in_err-b-clause-effect c =
    rw c.from_residual-in_err-b.ensures (sym (popped_none _ _ (sym c.in_err-b.ensures.value)))

pub returns-then-not-applies_to_both-clause-effect : goal.returns-then-not-applies_to_both-clause-effect
returns-then-not-applies_to_both-clause-effect c =
    let fit_a : FitsSigned w128 c.in_ok-a.a = search rules in
    let fit_b : FitsSigned w128 c.in_ok-b.b = search rules in
    let t = simp to_z-of_z at c.if-not-applies_to_both.ensures in
    sym (popped_two _ _ _ _ (sym c.in_ok-b.ensures.value) (sym c.in_ok-a.ensures.value) ∙ need_false _ _ (sym t))

pub returns-clause-effect : goal.returns-clause-effect
returns-clause-effect c =
    let fit_a : FitsSigned w128 c.in_ok-a.a = search rules in
    let fit_b : FitsSigned w128 c.in_ok-b.b = search rules in
    let fit_word : FitsSigned w128 c.binary-word.result = search rules in
    let t = simp to_z-of_z at c.if-not-applies_to_both.ensures in
    let h = simp to_z-of_z at c.binary-word.ensures.value in
    simp to_z-of_z (rw h (sym (popped_two _ _ _ _ (sym c.in_ok-b.ensures.value) (sym c.in_ok-a.ensures.value) ∙ need_true _ _ (sym t))))
