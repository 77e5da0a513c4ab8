use Rattle.std.proofs.Common.{rules, refl, ap}
use Rattle.arch_types.specs.Places.{find}
use Rattle.arch_types.proofs.Fields.{one_placed, all_placed}
use Rattle.arch_types.proofs.system.field_places.Goals as goal

pub loop-name-init : goal.loop-name-init
loop-name-init c = (refl, ap find c.new-made.ensures)

pub loop-name-preserved : goal.loop-name-preserved
loop-name-preserved c = (search rules, one_placed _ _ _ c.loop-name.invariant.1 _ _ _ c.loop-name-item.is c.loop-name-test.true c.loop-name.invariant.0 c.in_ok-add.ensures)

pub returns : goal.returns
returns c = all_placed _ _ _ c.loop-name-test.false c.loop-name.invariant.1
