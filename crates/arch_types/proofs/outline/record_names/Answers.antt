use Rattle.arch_types.proofs.Gathered.{none_gathered, more_gathered, all_gathered}
use Rattle.arch_types.proofs.outline.record_names.Goals as goal

pub loop-item-init : goal.loop-item-init
loop-item-init c = none_gathered _ _ _ _ c.new-made.ensures

pub loop-item-preserved : goal.loop-item-preserved
loop-item-preserved c = more_gathered _ _ _ _ _ _ _ _ c.item-item.is c.loop-item-test.true c.loop-item.invariant c.in_ok-add_record_name.ensures

pub returns : goal.returns
returns c = all_gathered _ _ _ _ _ _ c.loop-item-test.false c.loop-item.invariant
