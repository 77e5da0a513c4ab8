use Rattle.std.proofs.Common.{[], map, take}
use Rattle.tower_syntax.specs.NamedView.{named_item_of}
use Rattle.tower_syntax.specs.View.{channel_of as channel_in}
use Rattle.arch_types.specs.Outline.{channel_of}
use Rattle.arch_types.proofs.Gathered.{Gathered}
use Rattle.arch_types.proofs.outline.channels.Given as goal

abbrev pub invariant-loop-item : goal.invariant-loop-item
invariant-loop-item l = Gathered named_item_of channel_of [] (take l.item-index l.items) (map channel_in l.made)
