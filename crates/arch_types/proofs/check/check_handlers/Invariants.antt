use Rattle.std.proofs.Common.{map, drop}
use Rattle.tower_syntax.specs.NamedView.{named_item_of}
use Rattle.tower_syntax.specs.View.{handler_of}
use Rattle.arch_types.specs.Turns.{handled}
use Rattle.arch_types.proofs.Turned.{ItemsTurned}
use Rattle.arch_types.proofs.check.check_handlers.Given as goal

abbrev pub invariant-loop-item : goal.invariant-loop-item
invariant-loop-item l = ItemsTurned named_item_of (handled l.system) l.items (drop l.item-index l.items) (map handler_of l.made) l.monitor
