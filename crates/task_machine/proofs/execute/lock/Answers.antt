use Rattle.std.proofs.Common.{sym}
use Rattle.task_machine.proofs.Combinators.{some_held, none_held}
use Rattle.task_machine.proofs.execute.lock.Goals as goal

pub returns-then-is_lock_held-clause-effect : goal.returns-then-is_lock_held-clause-effect
returns-then-is_lock_held-clause-effect c =
    sym (some_held _ _ c.if-is_lock_held.ensures)

pub returns-else-is_lock_held-clause-effect : goal.returns-else-is_lock_held-clause-effect
returns-else-is_lock_held-clause-effect c =
    sym (none_held _ _ c.if-is_lock_held.ensures)
