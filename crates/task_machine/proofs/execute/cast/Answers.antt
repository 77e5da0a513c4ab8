use Rattle.std.proofs.Common.{sym, rules, FitsSigned}
use Rattle.std.specs.Int.{w128}
use Rattle.std.proofs.lemmas.Int.{to_z-of_z}
use Rattle.task_machine.proofs.Combinators.{popped_some, popped_none}
use Rattle.task_machine.proofs.execute.cast.Goals as goal

pub returns-in_err-a-clause-effect : goal.returns-in_err-a-clause-effect
returns-in_err-a-clause-effect c =
    rw c.from_residual.ensures (sym (popped_none _ _ (sym c.in_err-a.ensures.value)))

pub returns-clause-effect : goal.returns-clause-effect
returns-clause-effect c =
    let fit_a : FitsSigned w128 c.in_ok-a.a = search rules in
    let fit_word : FitsSigned w128 c.wrap-word.result = search rules in
    let h = simp to_z-of_z at c.wrap-word.ensures.value in
    simp to_z-of_z (rw h (sym (popped_some _ _ _ (sym c.in_ok-a.ensures.value))))
