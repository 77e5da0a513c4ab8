use Rattle.std.proofs.Common.{◌≡◌, ◌+◌, ◌≤◌, ◌++◌, map, vec_len, vec_capacity}
use Rattle.atomic_state.specs.Items.{item_of}
use Rattle.atomic_state.specs.StateView.{pending_of}
use Rattle.atomic_state.proofs.work.push_all.Given as goal

abbrev pub invariant-loop-item : goal.invariant-loop-item
invariant-loop-item l = record {
  put : map item_of l.items.items ++ pending_of l.pending.items ≡ map item_of l.initial.items.items ++ pending_of l.initial.pending.items;
  room : vec_len l.pending + vec_len l.items ≤ vec_capacity l.pending;
}

abbrev pub decreases-loop-item : goal.decreases-loop-item
decreases-loop-item l = vec_len l.items
