use Rattle.std.proofs.Common.{sym}
use Rattle.task_machine.proofs.Combinators.{returned_some, returned_none}
use Rattle.task_machine.proofs.execute.leave.Goals as goal

pub returns-in_err-to-clause-effect : goal.returns-in_err-to-clause-effect
returns-in_err-to-clause-effect c =
    rw c.from_residual.ensures (sym (returned_none _ _ (sym c.in_err-to.ensures)))

pub returns-clause-effect : goal.returns-clause-effect
returns-clause-effect c =
    sym (returned_some _ _ _ (sym c.in_ok-to.ensures))
