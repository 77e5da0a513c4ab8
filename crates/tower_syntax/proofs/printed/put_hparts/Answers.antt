use Rattle.std.proofs.Common.{arith, append_assoc}
use Rattle.tower_syntax.specs.RawView.{raw_hpart_of}
use Rattle.tower_syntax.specs.Printed.{hpart_form}
use Rattle.tower_syntax.proofs.Spaced.{all_spaced-more}
use Rattle.tower_syntax.proofs.printed.put_hparts.Goals as goal

pub loop-part-preserved : goal.loop-part-preserved
loop-part-preserved c = grind (arith, append_assoc, all_spaced-more raw_hpart_of hpart_form)
