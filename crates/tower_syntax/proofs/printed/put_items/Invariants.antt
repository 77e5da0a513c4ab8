use Rattle.std.proofs.Common.{◌≡◌, ◌++◌, map, take}
use Rattle.tower_syntax.specs.RawView.{raw_item_of}
use Rattle.tower_syntax.specs.Form.{all_spaced}
use Rattle.tower_syntax.specs.Printed.{item_form}
use Rattle.tower_syntax.proofs.printed.put_items.Given as goal

abbrev pub invariant-loop-item : goal.invariant-loop-item
invariant-loop-item l = l.out.items ≡ l.initial.out.items ++ all_spaced (map item_form (map raw_item_of (take l.item-index l.items)))
