use Rattle.std.proofs.Common.{◌≡◌, ◌∙◌, ◌++◌, length, map, ap, arith}
use Rattle.tower_types.specs.View.{value_of}
use Rattle.tower_types.specs.Value.{Value}
use Rattle.tower_types.specs.declared.value.Value.{Value as ValueValue}
use Rattle.tower_meaning.specs.System.{Item}
use Rattle.atomic_state.specs.Items.{item_of}
use Rattle.atomic_state.proofs.Followed.{all_added, of_map}
use Rattle.atomic_state.proofs.handle.add_all.Goals as goal

pub returns : goal.returns
returns c =
    let end : c.loop-message.message-index ≡ length c.args.messages.now = omega arith in
    all_added {A = ValueValue} {B = Item} (λ v. map (λ k. (k, value_of v)) c.args.listeners.now) c.args.messages.now (map item_of c.args.items.now.items) (map item_of c.loop-message.items.items) c.loop-message.message-index end c.loop-message.invariant
    ∙ ap (λ l. map item_of c.args.items.now.items ++ l) (of_map {B = Value} {C = Item} (λ v. map (λ k. (k, v)) c.args.listeners.now) value_of c.args.messages.now)
