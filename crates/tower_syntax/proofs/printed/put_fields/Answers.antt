use Rattle.std.proofs.Common.{arith, append_assoc}
use Rattle.tower_syntax.specs.RawView.{raw_field_of}
use Rattle.tower_syntax.specs.Printed.{field_form}
use Rattle.tower_syntax.proofs.Spaced.{all_spaced-more}
use Rattle.tower_syntax.proofs.printed.put_fields.Goals as goal

pub loop-field-preserved : goal.loop-field-preserved
loop-field-preserved c = grind (arith, append_assoc, all_spaced-more raw_field_of field_form)
