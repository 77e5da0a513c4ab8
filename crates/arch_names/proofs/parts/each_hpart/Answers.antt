use Rattle.arch_names.proofs.Gone.{none_gone, gone_more, gone_exit, all_gone}
use Rattle.arch_names.proofs.parts.each_hpart.Goals as goal

pub loop-part-init : goal.loop-part-init
loop-part-init c = none_gone _ _ _ _ _ _ c.new-made.ensures

pub loop-part-preserved : goal.loop-part-preserved
loop-part-preserved c = gone_more _ _ _ _ _ _ _ _ _ c.part-item.is c.loop-part-test.true c.loop-part.invariant _ _ c.in_ok-part.ensures.ok c.in_ok-push.ensures.ok

pub returns-in_err-part-clause-err : goal.returns-in_err-part-clause-err
returns-in_err-part-clause-err c = gone_exit _ _ _ _ _ _ _ _ _ c.part-item.is c.loop-part-test.true c.loop-part.invariant _ _ c.from_residual.ensures.1 c.in_err-part.ensures.err

pub returns-clause-ok : goal.returns-clause-ok
returns-clause-ok c = all_gone _ _ _ _ _ _ _ _ c.loop-part-test.false c.loop-part.invariant
