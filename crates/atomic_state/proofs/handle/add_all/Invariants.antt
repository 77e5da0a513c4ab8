use Rattle.std.proofs.Common.{map}
use Rattle.tower_types.specs.View.{value_of}
use Rattle.tower_types.specs.declared.value.Value.{Value as ValueValue}
use Rattle.tower_meaning.specs.System.{Item}
use Rattle.atomic_state.specs.Items.{item_of}
use Rattle.atomic_state.proofs.Followed.{IsAdded}
use Rattle.atomic_state.proofs.handle.add_all.Given as goal

abbrev pub invariant-loop-message : goal.invariant-loop-message
invariant-loop-message l = IsAdded {A = ValueValue} {B = Item} (λ v. map (λ k. (k, value_of v)) l.listeners) l.messages (map item_of l.initial.items.items) l.message-index (map item_of l.items.items)
