use Rattle.std.proofs.Common.{◌≡◌, ◌≤◌, ℕ, length, slice_get}
use Rattle.atomic_state.proofs.Arrived.{IsBrought}
use Rattle.atomic_state.proofs.arrive.bring_tick.Given as goal

abbrev pub invariant-loop-x : goal.invariant-loop-x
invariant-loop-x l = record {
  brought : IsBrought l.depths l.kinds l.k l.initial.queues.items l.x l.queues.items;
  ahead : (y : ℕ) → l.x ≤ y → slice_get l.queues.items y ≡ slice_get l.initial.queues.items y;
  count : length l.queues.items ≡ length l.initial.queues.items;
}
