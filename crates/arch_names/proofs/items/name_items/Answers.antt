use Rattle.arch_names.proofs.Gone.{none_gone, gone_more, gone_exit, all_gone}
use Rattle.arch_names.proofs.items.name_items.Goals as goal

pub loop-item-init : goal.loop-item-init
loop-item-init c = none_gone _ _ _ _ _ _ c.new-made.ensures

pub loop-item-preserved : goal.loop-item-preserved
loop-item-preserved c = gone_more _ _ _ _ _ _ _ _ _ c.item-item.is c.loop-item-test.true c.loop-item.invariant _ _ c.in_ok-item.ensures.ok c.in_ok-push.ensures.ok

pub returns-in_err-item-clause-err : goal.returns-in_err-item-clause-err
returns-in_err-item-clause-err c = gone_exit _ _ _ _ _ _ _ _ _ c.item-item.is c.loop-item-test.true c.loop-item.invariant _ _ c.from_residual.ensures.1 c.in_err-item.ensures.err

pub returns-clause-ok : goal.returns-clause-ok
returns-clause-ok c = all_gone _ _ _ _ _ _ _ _ c.loop-item-test.false c.loop-item.invariant
