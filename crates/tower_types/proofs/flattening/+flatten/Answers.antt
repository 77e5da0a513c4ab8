use Rattle.std.proofs.Common.{arith, append_assoc}
use Rattle.tower_types.proofs.Parts.{flat_all_more}
use Rattle.tower_types.proofs.flattening.+flatten.Goals as goal

pub append_all-loop-part-preserved : goal.append_all-loop-part-preserved
append_all-loop-part-preserved t c = grind (arith, flat_all_more, append_assoc)
