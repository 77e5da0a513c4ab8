use Rattle.std.proofs.Common.{arith, append_assoc}
use Rattle.tower_syntax.specs.RawView.{raw_item_of}
use Rattle.tower_syntax.specs.Printed.{item_form}
use Rattle.tower_syntax.proofs.Spaced.{all_spaced-more}
use Rattle.tower_syntax.proofs.printed.put_items.Goals as goal

pub loop-item-preserved : goal.loop-item-preserved
loop-item-preserved c = grind (arith, append_assoc, all_spaced-more raw_item_of item_form)
