use Rattle.std.proofs.Common.{refl}
use Rattle.arch_types.proofs.Turned.{none_turned, more_turned, all_turned, turn_stops, exit_stops}
use Rattle.arch_types.proofs.check.add_handlers.Goals as goal

pub loop-part-init : goal.loop-part-init
loop-part-init c = none_turned _ _ _ _ _ refl

pub loop-part-preserved : goal.loop-part-preserved
loop-part-preserved c = more_turned _ _ _ _ _ _ _ _ _ c.part-item.is c.loop-part-test.true c.loop-part.invariant c.in_ok-add_handler.ensures.ok

pub returns-in_err-add_handler-clause-err : goal.returns-in_err-add_handler-clause-err
returns-in_err-add_handler-clause-err c = exit_stops _ _ _ c.from_residual.ensures.1 (turn_stops _ _ _ _ _ _ _ _ _ c.part-item.is c.loop-part-test.true c.loop-part.invariant c.in_err-add_handler.ensures.err)

pub returns-clause-ok : goal.returns-clause-ok
returns-clause-ok c = all_turned _ _ _ _ _ _ _ c.loop-part-test.false c.loop-part.invariant
