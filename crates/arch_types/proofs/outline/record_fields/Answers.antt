use Rattle.std.proofs.Common.{ap, ◌∙◌}
use Rattle.tower_types.specs.View.{fields_of}
use Rattle.arch_types.proofs.Gathered.{none_gathered, more_gathered, all_gathered, each_one}
use Rattle.arch_types.proofs.outline.record_fields.Goals as goal

pub loop-field-init : goal.loop-field-init
loop-field-init c = none_gathered _ _ _ _ (ap fields_of c.new-made.ensures.items)

pub loop-field-preserved : goal.loop-field-preserved
loop-field-preserved c = more_gathered _ _ _ _ _ _ _ _ c.field-item.is c.loop-field-test.true c.loop-field.invariant c.in_ok-add_field.ensures

pub returns : goal.returns
returns c = all_gathered _ _ _ _ _ _ c.loop-field-test.false c.loop-field.invariant ∙ each_one _ _
