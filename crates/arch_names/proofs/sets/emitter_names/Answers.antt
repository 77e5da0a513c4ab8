use Rattle.arch_names.proofs.Gathered.{none_counted, counted_more, all_counted}
use Rattle.arch_names.proofs.sets.emitter_names.Goals as goal

pub loop-part-init : goal.loop-part-init
loop-part-init c = none_counted _ _ _ _ _ c.new-names.ensures

pub loop-part-preserved : goal.loop-part-preserved
loop-part-preserved c = counted_more _ _ _ _ _ _ _ _ _ _ _ c.part-item.is c.loop-part-test.true c.loop-part.invariant c.in_ok-number.ensures.names c.in_ok-number.ensures.number

pub returns : goal.returns
returns c = all_counted _ _ _ _ _ _ _ _ c.loop-part-test.false c.loop-part.invariant
