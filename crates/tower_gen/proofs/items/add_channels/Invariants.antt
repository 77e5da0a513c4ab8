use Rattle.std.proofs.Common.{◌≡◌, ◌++◌, map}
use Rattle.tower_syntax.specs.RawView.{raw_item_of}
use Rattle.tower_gen.specs.File.{upto, channel_item}
use Rattle.tower_gen.proofs.items.add_channels.Given as goal

abbrev pub invariant-loop-i : goal.invariant-loop-i
invariant-loop-i l = map raw_item_of l.items ≡ map raw_item_of l.initial.items ++ map channel_item (upto l.i)
