use Rattle.std.proofs.Common.{◌≡◌, [], map, take}
use Rattle.atomic_state.specs.StateView.{pending_of}
use Rattle.atomic_state.proofs.start.no_items.Given as goal

abbrev pub invariant-loop-kind : goal.invariant-loop-kind
invariant-loop-kind l = map (λ items. pending_of items.items) l.pending.items ≡ map (λ k. []) (take l._kind-index l.kinds)
