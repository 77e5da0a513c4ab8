use Rattle.std.proofs.Common.{◌≡◌, ◌∙◌, ap}
use Rattle.atomic_state.specs.TreeView.{tree_of}
use Rattle.atomic_state.proofs.Undone.{undone_pop}
use Rattle.atomic_state.proofs.draft.undo_all.Goals as goal

pub loop-change-preserved : goal.loop-change-preserved
loop-change-preserved c =
    undone_pop c.loop-change.changes.items c.pop.new.self.items c.in-Some.change c.as_slice.result.now (tree_of c.loop-change.value) (tree_of c.exchange.new.tree)
    c.in-Some.ensures.items c.exchange.ensures.after c.as_slice.ensures.value ∙ c.loop-change.invariant
