use Rattle.std.proofs.Common.{◌≡◌, map, take}
use Rattle.tower_types.specs.View.{value_of}
use Rattle.atomic_state.specs.TreeView.{tree_of}
use Rattle.atomic_state.proofs.tree.+lift.Given as goal

abbrev pub invariant-trees-loop-part : goal.invariant-trees-loop-part
invariant-trees-loop-part l = map tree_of l.trees.items ≡ map value_of (take l.part-index l.parts)
