use Rattle.std.proofs.Common.{arith, append_assoc}
use Rattle.tower_syntax.specs.RawView.{raw_part_of}
use Rattle.tower_syntax.specs.Printed.{part_form}
use Rattle.tower_syntax.proofs.Spaced.{all_spaced-more}
use Rattle.tower_syntax.proofs.printed.put_parts.Goals as goal

pub loop-part-preserved : goal.loop-part-preserved
loop-part-preserved c = grind (arith, append_assoc, all_spaced-more raw_part_of part_form)
