-- Queues of sources.
use Rattle.std.specs.Prelude.{◌≡◌, ℕ, ◌+◌, ◌<◌, ◌^◌, List, map, length, Some, slice_get}
use Rattle.std.specs.VecDeque.{deque_capacity}
use Rattle.tower_types.specs.Value.{Value}
use Rattle.tower_types.specs.View.{value_of}
use Rattle.tower_meaning.specs.Atomic.{Atomic}
use Rattle.atomic_state.specs.declared.queue.Queue.{Queue}

abbrev pub waiting_of : Queue → List Value
waiting_of q = map value_of q.waiting.items

-- there is room for a message, and for the count of one that is lost
pub record HasRoom (q : Queue) : Type 0 where
  pub room : length q.waiting.items < deque_capacity q.waiting
  pub count : q.lost + 1 < 2 ^ 64

abbrev pub HaveRoom : List Queue → Type 0
HaveRoom qs = (x : ℕ) (q : Queue) → slice_get qs x ≡ Some q → HasRoom q

abbrev pub with_queues : Atomic → List Queue → Atomic
with_queues s qs = record s { queues = map waiting_of qs; lost = map (λ q. q.lost) qs }
