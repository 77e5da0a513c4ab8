use Rattle.std.proofs.Common.{◌≡◌, vec_len}
use Rattle.atomic_state.specs.TreeView.{tree_of}
use Rattle.atomic_state.specs.DraftView.{undone}
use Rattle.atomic_state.proofs.draft.undo_all.Given as goal

abbrev pub invariant-loop-change : goal.invariant-loop-change
invariant-loop-change l = undone (tree_of l.value) l.changes.items ≡ undone (tree_of l.initial.value) l.initial.changes.items

abbrev pub decreases-loop-change : goal.decreases-loop-change
decreases-loop-change l = vec_len l.changes
