use Rattle.arch_names.proofs.Gone.{none_gone, gone_more, gone_exit, all_gone}
use Rattle.arch_names.proofs.parts.each_field.Goals as goal

pub loop-field-init : goal.loop-field-init
loop-field-init c = none_gone _ _ _ _ _ _ c.new-made.ensures

pub loop-field-preserved : goal.loop-field-preserved
loop-field-preserved c = gone_more _ _ _ _ _ _ _ _ _ c.field-item.is c.loop-field-test.true c.loop-field.invariant _ _ c.in_ok-field.ensures.ok c.in_ok-push.ensures.ok

pub returns-in_err-field-clause-err : goal.returns-in_err-field-clause-err
returns-in_err-field-clause-err c = gone_exit _ _ _ _ _ _ _ _ _ c.field-item.is c.loop-field-test.true c.loop-field.invariant _ _ c.from_residual.ensures.1 c.in_err-field.ensures.err

pub returns-clause-ok : goal.returns-clause-ok
returns-clause-ok c = all_gone _ _ _ _ _ _ _ _ c.loop-field-test.false c.loop-field.invariant
