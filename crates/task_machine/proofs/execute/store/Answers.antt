use Rattle.std.proofs.Common.{sym, rules, FitsSigned}
use Rattle.std.specs.Int.{w128}
use Rattle.std.proofs.lemmas.Int.{to_z-of_z}
use Rattle.task_machine.proofs.Combinators.{popped_some, popped_none}
use Rattle.task_machine.proofs.execute.store.Goals as goal

pub returns-in_err-word-clause-effect : goal.returns-in_err-word-clause-effect
returns-in_err-word-clause-effect c =
    rw c.from_residual.ensures (sym (popped_none _ _ (sym c.in_err-word.ensures.value)))

pub returns-clause-effect : goal.returns-clause-effect
returns-clause-effect c =
    let fit : FitsSigned w128 c.in_ok-word.word = search rules in
    simp to_z-of_z (sym (popped_some _ _ _ (sym c.in_ok-word.ensures.value)))
