use Rattle.std.proofs.Common.{ap, sym, ◌∙◌, rules, FitsSigned, to_z, of_z}
use Rattle.std.specs.Int.{w128}
use Rattle.std.proofs.lemmas.Int.{to_z-of_z}
use Rattle.task_machine.proofs.Combinators.{popped_some, popped_none, at_zero_same, at_zero_other}
use Rattle.task_machine.proofs.execute.jump_at_zero.Goals as goal

pub returns-in_err-a-clause-effect : goal.returns-in_err-a-clause-effect
returns-in_err-a-clause-effect c =
    rw c.from_residual.ensures (sym (popped_none _ _ (sym c.in_err-a.ensures.value)))

pub returns-then-a-eq0-clause-effect : goal.returns-then-a-eq0-clause-effect
returns-then-a-eq0-clause-effect c =
    let fit_a : FitsSigned w128 c.in_ok-a.a = search rules in
    let e = sym (to_z-of_z w128 c.in_ok-a.a fit_a) ∙ ap (to_z w128) c.if-a-eq0.true in
    sym (popped_some _ _ _ (sym c.in_ok-a.ensures.value) ∙ at_zero_same _ _ _ e)

pub returns-else-a-eq0-clause-effect : goal.returns-else-a-eq0-clause-effect
returns-else-a-eq0-clause-effect c =
    let fit_a : FitsSigned w128 c.in_ok-a.a = search rules in
    sym (popped_some _ _ _ (sym c.in_ok-a.ensures.value) ∙ at_zero_other _ _ _ (λ e. c.if-a-eq0.false (ap (of_z w128) e)))
