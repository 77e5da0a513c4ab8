use Rattle.std.proofs.Common.{[], map, take}
use Rattle.tower_syntax.specs.NamedView.{named_item_of}
use Rattle.tower_syntax.specs.View.{output_of as output_in}
use Rattle.arch_types.specs.Outline.{output_of}
use Rattle.arch_types.proofs.Gathered.{Gathered}
use Rattle.arch_types.proofs.outline.outputs.Given as goal

abbrev pub invariant-loop-item : goal.invariant-loop-item
invariant-loop-item l = Gathered named_item_of output_of [] (take l.item-index l.items) (map output_in l.made)
