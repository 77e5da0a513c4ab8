use Rattle.std.proofs.Common.{◌≡◌, ℕ, ◌<◌, ◌≤◌, drop, length, pos, [], ◌∷◌, true, false, Some, slice_get}
use Rattle.std.specs.Prelude.{fold}
use Rattle.tower_syntax.specs.Arrival.{is_due}
use Rattle.task_code.specs.Machine.{Machine, bring}
use Rattle.task_machine.specs.Queue.{Queue}
use Rattle.task_machine.specs.Brought.{with_queues, depth_at, kind_in, Brought, tick_messages}
use Rattle.task_machine.proofs.arrival.bring_tick.Given as goal

abbrev pub invariant-loop-x : goal.invariant-loop-x
invariant-loop-x l = record {
  machine : (m : Machine) → fold (bring l.depths) (with_queues m l.queues.items) (tick_messages (drop l.x l.kinds) l.k l.x)
      ≡ fold (bring l.depths) (with_queues m l.initial.queues.items) (tick_messages l.kinds l.k 0);
  brought : (y : ℕ) (q r : Queue) → y < l.x → slice_get l.initial.queues.items y ≡ Some q → slice_get l.queues.items y ≡ Some r → is_due l.k (kind_in l.kinds y) ≡ true
      → Brought (depth_at l.depths y) (pos l.k ∷ []) q r;
  passed : (y : ℕ) → is_due l.k (kind_in l.kinds y) ≡ false → slice_get l.queues.items y ≡ slice_get l.initial.queues.items y;
  ahead : (y : ℕ) → l.x ≤ y → slice_get l.queues.items y ≡ slice_get l.initial.queues.items y;
  count : length l.queues.items ≡ length l.initial.queues.items;
}
