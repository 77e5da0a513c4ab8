use Rattle.std.proofs.Common.{◌≡◌, map, take}
use Rattle.tower_types.specs.View.{value_of}
use Rattle.atomic_state.specs.TreeView.{tree_of}
use Rattle.atomic_state.proofs.tree.+copy.Given as goal

abbrev pub invariant-copy_all-loop-part : goal.invariant-copy_all-loop-part
invariant-copy_all-loop-part l = map tree_of l.copies.items ≡ map tree_of (take l.part-index l.parts)
