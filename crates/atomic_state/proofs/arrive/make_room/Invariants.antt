use Rattle.std.proofs.Common.{◌≡◌, length, map}
use Rattle.atomic_state.specs.Queues.{waiting_of}
use Rattle.atomic_state.proofs.Arrived.{FirstHaveRoom}
use Rattle.atomic_state.proofs.arrive.make_room.Given as goal

abbrev pub invariant-loop-x : goal.invariant-loop-x
invariant-loop-x l = record {
  waiting : map waiting_of l.queues.items ≡ map waiting_of l.initial.queues.items;
  lost : map (λ q. q.lost) l.queues.items ≡ map (λ q. q.lost) l.initial.queues.items;
  count : length l.queues.items ≡ length l.initial.queues.items;
  room : FirstHaveRoom l.x l.queues.items;
}
