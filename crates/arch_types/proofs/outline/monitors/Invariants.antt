use Rattle.std.proofs.Common.{[], map, take}
use Rattle.tower_syntax.specs.NamedView.{named_item_of}
use Rattle.tower_syntax.specs.View.{monitor_of as monitor_in}
use Rattle.arch_types.specs.Outline.{monitor_of}
use Rattle.arch_types.proofs.Gathered.{Gathered}
use Rattle.arch_types.proofs.outline.monitors.Given as goal

abbrev pub invariant-loop-item : goal.invariant-loop-item
invariant-loop-item l = Gathered named_item_of monitor_of [] (take l.item-index l.items) (map monitor_in l.made)
