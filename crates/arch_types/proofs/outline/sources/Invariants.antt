use Rattle.std.proofs.Common.{[], map, take}
use Rattle.tower_syntax.specs.NamedView.{named_item_of}
use Rattle.tower_syntax.specs.View.{source_of as source_in}
use Rattle.arch_types.specs.Outline.{source_of}
use Rattle.arch_types.proofs.Gathered.{Gathered}
use Rattle.arch_types.proofs.outline.sources.Given as goal

abbrev pub invariant-loop-item : goal.invariant-loop-item
invariant-loop-item l = Gathered named_item_of source_of [] (take l.item-index l.items) (map source_in l.made)
