use Rattle.arch_types.proofs.Listed.{items_begin, items_more, items_listed}
use Rattle.arch_types.proofs.listeners.listeners.Goals as goal

pub loop-item-init : goal.loop-item-init
loop-item-init c = items_begin _ _ _ c.new-made.ensures

pub loop-item-preserved : goal.loop-item-preserved
loop-item-preserved c = items_more _ _ _ _ _ _ _ _ _ _ c.item-item.is c.loop-item-test.true c.loop-item.invariant c.in_ok-numbers.ensures

pub returns : goal.returns
returns c = items_listed _ _ _ _ _ _ c.loop-item-test.false c.loop-item.invariant
