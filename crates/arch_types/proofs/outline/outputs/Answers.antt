use Rattle.std.proofs.Common.{map, ap}
use Rattle.tower_syntax.specs.View.{output_of as output_in}
use Rattle.arch_types.proofs.Gathered.{none_gathered, more_gathered, all_gathered}
use Rattle.arch_types.proofs.outline.outputs.Goals as goal

pub loop-item-init : goal.loop-item-init
loop-item-init c = none_gathered _ _ _ _ (ap (map output_in) c.new-made.ensures)

pub loop-item-preserved : goal.loop-item-preserved
loop-item-preserved c = more_gathered _ _ _ _ _ _ _ _ c.item-item.is c.loop-item-test.true c.loop-item.invariant c.in_ok-add_output.ensures

pub returns : goal.returns
returns c = all_gathered _ _ _ _ _ _ c.loop-item-test.false c.loop-item.invariant
