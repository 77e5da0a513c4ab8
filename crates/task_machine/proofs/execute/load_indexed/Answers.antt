use Rattle.std.proofs.Common.{sym, ◌∙◌, rules, FitsSigned}
use Rattle.std.specs.Int.{w128}
use Rattle.std.proofs.lemmas.Int.{to_z-of_z}
use Rattle.task_machine.proofs.Combinators.{popped_some, popped_none}
use Rattle.task_machine.proofs.execute.load_indexed.Goals as goal

pub returns-in_err-i-clause-effect : goal.returns-in_err-i-clause-effect
returns-in_err-i-clause-effect c =
    rw c.from_residual.ensures (sym (popped_none _ _ (sym c.in_err-i.ensures.value)))

pub returns-in_err-k-clause-effect : goal.returns-in_err-k-clause-effect
returns-in_err-k-clause-effect c =
    let fit_i : FitsSigned w128 c.in_ok-i.i = search rules in
    let h = simp to_z-of_z at c.in_err-k.ensures.place in
    rw c.from_residual-in_err-k.ensures (sym (popped_some _ _ _ (sym c.in_ok-i.ensures.value) ∙ h _))

pub returns-clause-effect : goal.returns-clause-effect
returns-clause-effect c =
    let fit_i : FitsSigned w128 c.in_ok-i.i = search rules in
    let fit_word : FitsSigned w128 c.word-word.result = search rules in
    let h = simp to_z-of_z at c.in_ok-k.ensures.place in
    simp to_z-of_z (rw c.word-word.ensures (sym (popped_some _ _ _ (sym c.in_ok-i.ensures.value) ∙ h _)))
