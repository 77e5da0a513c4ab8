use Rattle.std.proofs.Common.{◌≡◌, map, take}
use Rattle.tower_meaning.specs.Atomic.{first_queue}
use Rattle.atomic_state.specs.Queues.{waiting_of}
use Rattle.atomic_state.proofs.start.first_queues.Given as goal

abbrev pub invariant-loop-kind : goal.invariant-loop-kind
invariant-loop-kind l = record {
  waiting : map waiting_of l.queues.items ≡ map first_queue (take l.kind-index l.kinds);
  lost : map (λ q. q.lost) l.queues.items ≡ map (λ k. 0) (take l.kind-index l.kinds);
}
