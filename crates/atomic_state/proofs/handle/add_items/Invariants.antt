use Rattle.std.proofs.Common.{◌∷◌, [], map}
use Rattle.tower_types.specs.View.{value_of}
use Rattle.tower_syntax.specs.declared.arch.Listener.{Listener}
use Rattle.tower_meaning.specs.System.{Item}
use Rattle.atomic_state.specs.Items.{item_of}
use Rattle.atomic_state.proofs.Followed.{IsAdded}
use Rattle.atomic_state.proofs.handle.add_items.Given as goal

abbrev pub invariant-loop-listener : goal.invariant-loop-listener
invariant-loop-listener l = IsAdded {A = Listener} {B = Item} (λ k. (k, value_of l.message) ∷ []) l.listeners (map item_of l.initial.items.items) l.listener-index (map item_of l.items.items)
