use Rattle.std.proofs.Common.{refl}
use Rattle.arch_names.proofs.Gathered.{none_filled, filled_more, all_filled}
use Rattle.arch_names.proofs.sets.add_handlers.Goals as goal

pub loop-part-init : goal.loop-part-init
loop-part-init c = none_filled _ _ _ _ refl

pub loop-part-preserved : goal.loop-part-preserved
loop-part-preserved c = filled_more _ _ _ _ _ _ _ _ c.part-item.is c.loop-part-test.true c.loop-part.invariant c.in_ok-add_handler.ensures

pub returns : goal.returns
returns c = all_filled _ _ _ _ _ _ c.loop-part-test.false c.loop-part.invariant
