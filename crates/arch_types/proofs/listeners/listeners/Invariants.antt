use Rattle.std.proofs.Common.{drop}
use Rattle.tower_syntax.specs.NamedView.{named_item_of}
use Rattle.arch_types.proofs.Listed.{ItemsListed}
use Rattle.arch_types.proofs.listeners.listeners.Given as goal

abbrev pub invariant-loop-item : goal.invariant-loop-item
invariant-loop-item l = ItemsListed named_item_of l.items (drop l.item-index l.items) l.made l.numbers.outputs l.numbers.handlers
