use Rattle.std.proofs.Common.{[], take}
use Rattle.tower_syntax.specs.NamedView.{named_item_of}
use Rattle.arch_types.specs.Outline.{record_of}
use Rattle.arch_types.proofs.Gathered.{Gathered}
use Rattle.arch_types.proofs.outline.records.Given as goal

abbrev pub invariant-loop-item : goal.invariant-loop-item
invariant-loop-item l = Gathered named_item_of record_of [] (take l.item-index l.items) (l.made)
