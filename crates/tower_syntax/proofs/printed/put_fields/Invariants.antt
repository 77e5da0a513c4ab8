use Rattle.std.proofs.Common.{◌≡◌, ◌++◌, map, take}
use Rattle.tower_syntax.specs.RawView.{raw_field_of}
use Rattle.tower_syntax.specs.Form.{all_spaced}
use Rattle.tower_syntax.specs.Printed.{field_form}
use Rattle.tower_syntax.proofs.printed.put_fields.Given as goal

abbrev pub invariant-loop-field : goal.invariant-loop-field
invariant-loop-field l = l.out.items ≡ l.initial.out.items ++ all_spaced (map field_form (map raw_field_of (take l.field-index l.fields)))
