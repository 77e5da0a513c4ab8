use Rattle.std.proofs.Common.{◌≡◌, ◌∙◌, ◌++◌, map, ap}
use Rattle.tower_types.specs.View.{value_of}
use Rattle.tower_syntax.specs.declared.arch.Listener.{Listener}
use Rattle.tower_meaning.specs.System.{Item}
use Rattle.atomic_state.specs.Items.{item_of}
use Rattle.atomic_state.specs.StateView.{pending_of}
use Rattle.atomic_state.proofs.Pending.{pending_reverse}
use Rattle.atomic_state.proofs.marks.items_for.Goals as goal

pub returns : goal.returns
returns c =
    let f : Listener → Item = λ l. (l, value_of c.args.message.now) in
    ap pending_of c.reverse.ensures.items ∙ pending_reverse c.add_items.new.items.items ∙ c.in_ok-add_items.ensures
    ∙ ap (λ l. map item_of l ++ map f c.as_slice.result.now) c.new-items.ensures.items ∙ ap (map f) (c.as_slice.ensures.value ∙ c.in_ok-listeners.ensures)
