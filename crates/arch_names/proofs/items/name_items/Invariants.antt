use Rattle.std.proofs.Common.{take}
use Rattle.tower_syntax.specs.RawView.{raw_item_of}
use Rattle.tower_syntax.specs.NamedView.{named_item_of}
use Rattle.arch_names.specs.Names.{find}
use Rattle.arch_names.specs.Sites.{item_sites}
use Rattle.arch_names.specs.Linked.{linked_item}
use Rattle.arch_names.specs.Walk.{meant}
use Rattle.arch_names.proofs.Gone.{Gone}
use Rattle.arch_names.proofs.items.name_items.Given as goal

abbrev pub invariant-loop-item : goal.invariant-loop-item
invariant-loop-item l = Gone raw_item_of item_sites named_item_of (linked_item meant) (find l.file) (take l.item-index l.items) l.made
