use Rattle.arch_names.proofs.Gathered.{none_counted, counted_more, all_counted}
use Rattle.arch_names.proofs.sets.file_names.Goals as goal

pub loop-item-init : goal.loop-item-init
loop-item-init c = none_counted _ _ _ _ _ c.new-names.ensures

pub loop-item-preserved : goal.loop-item-preserved
loop-item-preserved c = counted_more _ _ _ _ _ _ _ _ _ _ _ c.item-item.is c.loop-item-test.true c.loop-item.invariant c.in_ok-counts.ensures.names c.in_ok-counts.ensures.counts

pub returns : goal.returns
returns c = all_counted _ _ _ _ _ _ _ _ c.loop-item-test.false c.loop-item.invariant
