use Rattle.std.proofs.Common.{ap}
use Rattle.tower_types.specs.View.{fields_of}
use Rattle.arch_types.proofs.Gathered.{none_gathered, more_gathered, all_gathered}
use Rattle.arch_types.proofs.outline.states.Goals as goal

pub loop-part-init : goal.loop-part-init
loop-part-init c = none_gathered _ _ _ _ (ap (fields_of) c.new-made.ensures)

pub loop-part-preserved : goal.loop-part-preserved
loop-part-preserved c = more_gathered _ _ _ _ _ _ _ _ c.part-item.is c.loop-part-test.true c.loop-part.invariant c.in_ok-add_state.ensures

pub returns : goal.returns
returns c = all_gathered _ _ _ _ _ _ c.loop-part-test.false c.loop-part.invariant
