-- What a machine that runs keeps, with what it has of its own: its queues, the messages of the signals that are to
-- come, and the locks that are held.
use Rattle.std.specs.Prelude.{◌≡◌, ◌==◌, ℕ, suc, ◌+◌, ◌≤◌, ℤ, List, [], ◌∷◌, map, take, drop, length, All, cond, Option, Some, None, slice_get, slice_index, slice_index_or}
use Rattle.tower_types.specs.Value.{flat}
use Rattle.tower_syntax.specs.declared.arch.SourceKind.{SourceKind}
use Rattle.tower_syntax.specs.declared.arch.SourceKind.TheVariants as kind
use Rattle.tower_syntax.specs.Arch.{Entry, tick, signal, Events}
use Rattle.tower_syntax.specs.Arrival.{ticks, is_due}
use Rattle.task_code.specs.declared.program.Task.{Task}
use Rattle.task_code.specs.Program.{Program}
use Rattle.task_code.specs.Fits.{Fits}
use Rattle.task_code.specs.Own.{Held, Own, held_monitor}
use Rattle.task_code.specs.Machine.{Lock, Free, HeldBy}
use Rattle.task_machine.specs.Policy.{IsBelow}
use Rattle.task_machine.specs.Queue.{Queue, is_numbered, IsQueue}

-- how many messages the entries bring to source x of this kind, after k ticks
abbrev pub coming : SourceKind → ℕ → ℕ → List Entry → ℕ
coming kind x k [] = 0
coming kind x k (tick ∷ es) = cond (is_due (suc k) kind) 1 0 + coming kind x (suc k) es
coming kind x k (signal y v ∷ es) = cond (y == x) 1 0 + coming kind x k es

-- the messages of the signals
abbrev pub signals : List Entry → List (List ℤ)
signals [] = []
signals (tick ∷ es) = signals es
signals (signal x v ∷ es) = flat v ∷ signals es

abbrev pub kind_of : Events → ℕ → SourceKind
kind_of events x = slice_index_or events.kinds x kind.Signal

abbrev pub depth_of : Events → ℕ → Option ℕ
depth_of events x = slice_index_or events.depths x None

-- each task has as many words as its room
abbrev pub HaveRoom : Program → List Own → Type 0
HaveRoom p owns = (x : ℕ) (t : Task) (own : Own) → slice_get p.tasks x ≡ Some t → slice_get owns x ≡ Some own → length own.words ≡ t.room

-- a lock that is free has so many words
abbrev pub HasWords : ℕ → Lock → Type 0
HasWords n (Free ws) = length ws ≡ n
HasWords n (HeldBy t) = Unit {0}

-- each free lock has as many words as its monitor
abbrev pub HaveWords : Program → List Lock → Type 0
HaveWords p locks = (m : ℕ) (l : Lock) → slice_get locks m ≡ Some l → HasWords (slice_index p.monitors m) l

-- a lock that is held has as many words as its monitor
abbrev pub HoldsWords : Program → Option Held → Type 0
HoldsWords p None = Unit {0}
HoldsWords p (Some h) = length h.words ≡ slice_index p.monitors h.monitor

-- and so has each lock that a task holds
abbrev pub HoldWords : Program → List Own → Type 0
HoldWords p owns = (x : ℕ) (own : Own) → slice_get owns x ≡ Some own → HoldsWords p own.held

-- each queue is one of its task's messages, with room for those to come
abbrev pub AreQueues : Program → Events → (k place : ℕ) → List Queue → Type 0
AreQueues p events k place qs = (x : ℕ) (t : Task) (q : Queue) → slice_get p.tasks x ≡ Some t → slice_get qs x ≡ Some q
    → IsQueue t.message (depth_of events x) (is_numbered (kind_of events x)) (coming (kind_of events x) x k (drop place events.entries)) place q

pub record IsKept (p : Program) (events : Events) (owns : List Own) (locks : List Lock) (qs : List Queue) (messages : List (List ℤ)) (held : List (Option ℕ)) (k place : ℕ) : Type 0 where
  pub fits : Fits p events
  pub owns_count : length owns ≡ length p.tasks
  pub locks_count : length locks ≡ length p.monitors
  pub queues_count : length qs ≡ length p.tasks
  pub words : HaveRoom p owns
  pub free : HaveWords p locks
  pub held_words : HoldWords p owns
  pub queues : AreQueues p events k place qs
  pub to_come : messages ≡ signals (drop place events.entries)
  pub holds : held ≡ map held_monitor owns
  pub below : All (IsBelow (length p.monitors)) held
  pub count : k ≡ ticks (take place events.entries)
  pub at : place ≤ length events.entries
