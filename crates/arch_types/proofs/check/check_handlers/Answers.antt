use Rattle.std.proofs.Common.{map, ap}
use Rattle.tower_syntax.specs.View.{handler_of}
use Rattle.arch_types.proofs.Turned.{items_begin, items_more, items_all, items_stop, exit_gives}
use Rattle.arch_types.proofs.check.check_handlers.Goals as goal

pub loop-item-init : goal.loop-item-init
loop-item-init c = items_begin _ _ _ _ (ap (map handler_of) c.new-made.ensures)

pub loop-item-preserved : goal.loop-item-preserved
loop-item-preserved c = items_more _ _ _ _ _ _ _ _ _ c.item-item.is c.loop-item-test.true c.loop-item.invariant c.in_ok-monitor.ensures.ok

pub returns-in_err-monitor : goal.returns-in_err-monitor
returns-in_err-monitor c = exit_gives _ _ _ _ c.from_residual.ensures.1 (items_stop _ _ _ _ _ _ _ _ c.item-item.is c.loop-item-test.true c.loop-item.invariant c.in_err-monitor.ensures.err)

pub returns : goal.returns
returns c = items_all _ _ _ _ _ _ c.loop-item-test.false c.loop-item.invariant
