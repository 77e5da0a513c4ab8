use Rattle.std.proofs.Common.{sym}
use Rattle.task_machine.proofs.Combinators.{popped_some, popped_none}
use Rattle.task_machine.proofs.execute.pop.Goals as goal

pub returns-in_err-top-clause-effect : goal.returns-in_err-top-clause-effect
returns-in_err-top-clause-effect c =
    rw c.from_residual.ensures (sym (popped_none _ _ (sym c.in_err-top.ensures.value)))

pub returns-clause-effect : goal.returns-clause-effect
returns-clause-effect c =
    sym (popped_some _ _ _ (sym c.in_ok-top.ensures.value))
