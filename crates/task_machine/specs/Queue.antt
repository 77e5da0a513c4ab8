-- The queue of a source.
use Rattle.std.specs.Prelude.{◌≡◌, ℕ, ◌+◌, ◌≤◌, ℤ, pos, List, [], ◌∷◌, ◌++◌, map, drop, length, All, min, Bool, true, false, Option, Some, None}
use Rattle.std.specs.VecDeque.{deque_capacity}
use Rattle.tower_syntax.specs.declared.arch.SourceKind.{SourceKind}
use Rattle.tower_syntax.specs.declared.arch.SourceKind.TheVariants as kind
use Rattle.task_machine.specs.declared.queue.Ring.{Ring}
use Rattle.task_machine.specs.declared.queue.Ring.TheVariants.{Numbers, Words}

-- The messages that wait, the oldest first, how many were dropped, for how many there is room, and whether they are
-- numbers.
pub record Queue : Type 0 where
  pub messages : List (List ℤ)
  pub dropped : ℕ
  pub room : ℕ
  pub numbered : Bool

abbrev pub queue_of : Ring → ℕ → Queue
queue_of (Numbers ns) lost = record { messages = map (λ n. pos n ∷ []) ns.items; dropped = lost; room = deque_capacity ns; numbered = true }
queue_of (Words ms) lost = record { messages = ms.items; dropped = lost; room = deque_capacity ms; numbered = false }

abbrev pub waiting : Queue → List (List ℤ)
waiting q = q.messages

abbrev pub lost : Queue → ℕ
lost q = q.dropped

abbrev pub empty : ℕ → Bool → Queue
empty room numbered = record { messages = []; dropped = 0; room = room; numbered = numbered }

abbrev pub with_more : Queue → List ℤ → Queue
with_more q message = record q { messages = q.messages ++ message ∷ [] }

abbrev pub with_less : Queue → Queue
with_less q = record q { messages = drop 1 q.messages }

-- so many messages never need more room than this
abbrev pub capped : Option ℕ → ℕ → ℕ
capped None n = n
capped (Some depth) n = min depth n

-- the messages of a source of this kind are numbers
abbrev pub is_numbered : SourceKind → Bool
is_numbered kind.Init = true
is_numbered (kind.Period ms) = true
is_numbered kind.Signal = false

-- a queue of messages of so many words, numbers or not, with room for those that are still to come
pub record IsQueue (width : ℕ) (depth : Option ℕ) (number : Bool) (coming place : ℕ) (q : Queue) : Type 0 where
  pub messages : All (λ m. length m ≡ width) (waiting q)
  pub within : length (waiting q) ≡ capped depth (length (waiting q))
  pub room : capped depth (length (waiting q) + coming) ≤ q.room
  pub few_lost : lost q ≤ place
  pub numbered : q.numbered ≡ number
