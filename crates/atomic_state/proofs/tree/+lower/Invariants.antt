use Rattle.std.proofs.Common.{◌≡◌, map, take}
use Rattle.tower_types.specs.View.{value_of}
use Rattle.atomic_state.specs.TreeView.{tree_of}
use Rattle.atomic_state.proofs.tree.+lower.Given as goal

abbrev pub invariant-values-loop-part : goal.invariant-values-loop-part
invariant-values-loop-part l = map value_of l.values ≡ map tree_of (take l.part-index l.parts)
