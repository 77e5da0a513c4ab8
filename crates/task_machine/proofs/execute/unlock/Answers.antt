use Rattle.std.proofs.Common.{sym}
use Rattle.task_machine.proofs.Combinators.{not_holding, unlock_holding}
use Rattle.task_machine.proofs.execute.unlock.Goals as goal

pub returns-then-holds-clause-effect : goal.returns-then-holds-clause-effect
returns-then-holds-clause-effect c =
    sym (unlock_holding c.args.own.now c.args.own.now.held c.args.monitor (sym c.if-holds.ensures))

pub returns-else-holds-clause-effect : goal.returns-else-holds-clause-effect
returns-else-holds-clause-effect c =
    sym (not_holding _ _ _ (sym c.if-holds.ensures))
