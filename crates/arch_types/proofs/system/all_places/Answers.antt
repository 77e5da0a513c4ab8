use Rattle.std.proofs.Common.{◌∙◌, map, ap}
use Rattle.arch_types.specs.Places.{find}
use Rattle.arch_types.proofs.Fields.{one_record}
use Rattle.arch_types.proofs.system.all_places.Goals as goal

pub loop-r-preserved : goal.loop-r-preserved
loop-r-preserved c = ap (map find) c.in_ok-push.ensures.ok ∙ one_record _ _ _ _ _ c.loop-r.invariant c.fields.ensures.value c.in_ok-places.ensures
