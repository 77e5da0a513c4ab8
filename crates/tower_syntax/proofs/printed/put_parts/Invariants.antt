use Rattle.std.proofs.Common.{◌≡◌, ◌++◌, map, take}
use Rattle.tower_syntax.specs.RawView.{raw_part_of}
use Rattle.tower_syntax.specs.Form.{all_spaced}
use Rattle.tower_syntax.specs.Printed.{part_form}
use Rattle.tower_syntax.proofs.printed.put_parts.Given as goal

abbrev pub invariant-loop-part : goal.invariant-loop-part
invariant-loop-part l = l.out.items ≡ l.initial.out.items ++ all_spaced (map part_form (map raw_part_of (take l.part-index l.parts)))
