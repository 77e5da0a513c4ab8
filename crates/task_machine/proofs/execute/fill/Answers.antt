use Rattle.std.proofs.Common.{sym, ◌∙◌, rules, arith, FitsSigned}
use Rattle.std.specs.Int.{w128}
use Rattle.std.proofs.lemmas.Int.{to_z-of_z}
use Rattle.task_machine.proofs.Combinators.{popped_two, popped_none, popped_two_none, need_true, need_false, is_under, is_not_under}
use Rattle.task_machine.proofs.execute.fill.Goals as goal

pub returns-in_err-j-clause-effect : goal.returns-in_err-j-clause-effect
returns-in_err-j-clause-effect c =
    rw c.from_residual.ensures (sym (popped_two_none _ _ (sym c.in_err-j.ensures.value)))

pub returns-in_err-word-clause-effect : goal.returns-in_err-word-clause-effect
returns-in_err-word-clause-effect c =
    rw c.from_residual-in_err-word.ensures (sym (popped_none _ _ (sym c.in_err-word.ensures.value)))

pub returns-in_err-shape-clause-effect : goal.returns-in_err-shape-clause-effect
returns-in_err-shape-clause-effect c =
    rw c.from_residual-in_err-shape.ensures (sym (popped_two _ _ _ _ (sym c.in_ok-word.ensures.value) (sym c.in_ok-j.ensures.value) ∙ c.in_err-shape.ensures.none _))

pub returns-then-count-shape-clause-effect : goal.returns-then-count-shape-clause-effect
returns-then-count-shape-clause-effect c =
    let n = c.in_ok-shape.ensures.count in
    sym (popped_two _ _ _ _ (sym c.in_ok-word.ensures.value) (sym c.in_ok-j.ensures.value) ∙ c.in_ok-shape.ensures.some _ ∙ need_false _ _ (is_not_under _ _ (rw n (omega arith))))

pub returns-in_err-k-clause-effect : goal.returns-in_err-k-clause-effect
returns-in_err-k-clause-effect c =
    let n = c.in_ok-shape.ensures.count in
    let fit_j : FitsSigned w128 c.in_ok-j.j = search rules in
    let h = simp to_z-of_z at c.in_err-k.ensures.place in
    rw c.from_residual-in_err-k.ensures (sym (popped_two _ _ _ _ (sym c.in_ok-word.ensures.value) (sym c.in_ok-j.ensures.value) ∙ c.in_ok-shape.ensures.some _ ∙ need_true _ _ (is_under _ _ (rw n (omega arith))) ∙ h _))

pub returns-clause-effect : goal.returns-clause-effect
returns-clause-effect c =
    let n = c.in_ok-shape.ensures.count in
    let fit_j : FitsSigned w128 c.in_ok-j.j = search rules in
    let fit_word : FitsSigned w128 c.in_ok-word.word = search rules in
    let h = simp to_z-of_z at c.in_ok-k.ensures.place in
    simp to_z-of_z (sym (popped_two _ _ _ _ (sym c.in_ok-word.ensures.value) (sym c.in_ok-j.ensures.value) ∙ c.in_ok-shape.ensures.some _ ∙ need_true _ _ (is_under _ _ (rw n (omega arith))) ∙ h _))
