use Rattle.arch_names.proofs.Gathered.{none_filled, filled_more, all_filled}
use Rattle.arch_names.proofs.sets.field_names.Goals as goal

pub loop-field-init : goal.loop-field-init
loop-field-init c = none_filled _ _ _ _ c.new-names.ensures

pub loop-field-preserved : goal.loop-field-preserved
loop-field-preserved c = filled_more _ _ _ _ _ _ _ _ c.field-item.is c.loop-field-test.true c.loop-field.invariant c.in_ok-declare.ensures

pub returns : goal.returns
returns c = all_filled _ _ _ _ _ _ c.loop-field-test.false c.loop-field.invariant
