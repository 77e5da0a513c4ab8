use Rattle.std.proofs.Common.{sym, ◌∙◌, rules, FitsSigned}
use Rattle.std.specs.Int.{w128}
use Rattle.std.proofs.lemmas.Int.{to_z-of_z}
use Rattle.task_machine.proofs.Combinators.{popped_two, popped_none, popped_two_none}
use Rattle.task_machine.proofs.execute.read.Goals as goal

pub returns-in_err-i-clause-effect : goal.returns-in_err-i-clause-effect
returns-in_err-i-clause-effect c =
    rw c.from_residual.ensures (sym (popped_two_none _ _ (sym c.in_err-i.ensures.value)))

pub returns-in_err-j-clause-effect : goal.returns-in_err-j-clause-effect
returns-in_err-j-clause-effect c =
    rw c.from_residual-in_err-j.ensures (sym (popped_none _ _ (sym c.in_err-j.ensures.value)))

pub returns-in_err-shape-clause-effect : goal.returns-in_err-shape-clause-effect
returns-in_err-shape-clause-effect c =
    rw c.from_residual-in_err-shape.ensures (sym (popped_two _ _ _ _ (sym c.in_ok-j.ensures.value) (sym c.in_ok-i.ensures.value) ∙ c.in_err-shape.ensures.none _))

pub returns-in_err-n-clause-effect : goal.returns-in_err-n-clause-effect
returns-in_err-n-clause-effect c =
    let n = c.in_ok-shape.ensures.count in
    let fit_i : FitsSigned w128 c.in_ok-i.i = search rules in
    let h = simp to_z-of_z at c.in_err-n.ensures.place in
    let g = rw (← n) at h in
    rw c.from_residual-in_err-n.ensures (sym (popped_two _ _ _ _ (sym c.in_ok-j.ensures.value) (sym c.in_ok-i.ensures.value) ∙ c.in_ok-shape.ensures.some _ ∙ g _))

pub returns-in_err-k-clause-effect : goal.returns-in_err-k-clause-effect
returns-in_err-k-clause-effect c =
    let n = c.in_ok-shape.ensures.count in
    let fit_i : FitsSigned w128 c.in_ok-i.i = search rules in
    let fit_j : FitsSigned w128 c.in_ok-j.j = search rules in
    let h = simp to_z-of_z at c.in_ok-n.ensures.place in
    let g = rw (← n) at h in
    let k = simp to_z-of_z at c.in_err-k.ensures.place in
    rw c.from_residual-in_err-k.ensures (sym (popped_two _ _ _ _ (sym c.in_ok-j.ensures.value) (sym c.in_ok-i.ensures.value) ∙ c.in_ok-shape.ensures.some _ ∙ g _ ∙ k _))

pub returns-clause-effect : goal.returns-clause-effect
returns-clause-effect c =
    let n = c.in_ok-shape.ensures.count in
    let fit_i : FitsSigned w128 c.in_ok-i.i = search rules in
    let fit_j : FitsSigned w128 c.in_ok-j.j = search rules in
    let fit_word : FitsSigned w128 c.message_word-word.result = search rules in
    let h = simp to_z-of_z at c.in_ok-n.ensures.place in
    let g = rw (← n) at h in
    let k = simp to_z-of_z at c.in_ok-k.ensures.place in
    simp to_z-of_z (rw c.message_word-word.ensures (sym (popped_two _ _ _ _ (sym c.in_ok-j.ensures.value) (sym c.in_ok-i.ensures.value) ∙ c.in_ok-shape.ensures.some _ ∙ g _ ∙ k _)))
