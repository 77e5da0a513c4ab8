-- What a machine keeps of how its tasks stand.
use Rattle.std.specs.Prelude.{◌≡◌, ◌==◌, ℕ, ◌<◌, ℤ, List, length, replicate, Bool, true, false, not, ◌&&◌, Option, Some, None, slice_get}
use Rattle.tower_syntax.specs.declared.arch.SourceKind.TheVariants as kind
use Rattle.tower_syntax.specs.Arch.{Events}
use Rattle.tower_syntax.specs.View.{events_of}
use Rattle.tower_syntax.specs.Arrival.{is_init, is_due, ticks}
use Rattle.task_code.specs.declared.program.Task.{Task}
use Rattle.task_code.specs.Own.{Own}
use Rattle.task_code.specs.Does.{Does, Stuck, Private, Takes, Locks, Unlocks, Writes}
use Rattle.task_code.specs.Machine.{Machine, queue}
use Rattle.task_code.specs.Standing.{Standing, IsStuck, IsIdle, IsWaiting, IsReady, is_ready, inits_clear, kind_at, at_queue, at_lock}
use Rattle.task_machine.specs.declared.action.Action.{Action}
use Rattle.task_machine.specs.declared.action.Action.TheVariants as an
use Rattle.task_machine.specs.Action.{effect, IsWithin, CanGoOn}
use Rattle.task_machine.specs.State.{State, standing_in, does_next}
use Rattle.task_machine.specs.Bits.{words_for, bit, as_bit}

-- Of each task what its next instruction comes to, and whether it is ready. A row for each monitor has the bits of the
-- tasks at a LOCK of it. `clear` says that the initialisation is over.
pub record Notes : Type 0 where
  pub actions : List Action
  pub ready : List Bool
  pub rows : List (List ℕ)
  pub blank : List ℕ  -- a row of no task
  pub clear : Bool

-- the initialisation is over
abbrev pub clear_in : State → Bool
clear_in s = inits_clear (events_of s.events).kinds s.program.tasks s.machine.tasks s.machine.queues

-- is this a LOCK of monitor m
abbrev pub locks_at : ℕ → Does → Bool
locks_at m (Locks k f) = k == m
locks_at m _ = false

abbrev pub lock_in : Action → Option ℕ
lock_in (an.Lock m) = Some m
lock_in _ = None

-- the monitor whose lock is taken or given back
abbrev pub touched_by : Does → Option ℕ
touched_by (Locks k f) = Some k
touched_by (Unlocks h own) = Some h.monitor
touched_by _ = None

-- how a task stands that does this, where it is known whether the initialisation is over
abbrev pub stands_by : Bool → State → ℕ → Does → Standing
stands_by clear s x Stuck = IsStuck
stands_by clear s x (Private own) = IsReady
stands_by clear s x (Takes f) = at_queue (not (is_init (kind_at (events_of s.events) x)) && not clear) (queue s.machine x)
stands_by clear s x (Locks k f) = at_lock k (slice_get s.machine.locks k)
stands_by clear s x (Unlocks h own) = IsReady
stands_by clear s x (Writes o ws own) = IsReady

abbrev pub ready_by : Bool → State → ℕ → Bool
ready_by clear s x = is_ready (stands_by clear s x (does_next s x))

-- what the next instruction of task x comes to
pub record IsNext (s : State) (x : ℕ) (a : Action) : Type 0 where
  pub effect : (own : Own) → slice_get s.machine.tasks x ≡ Some own → effect a own ≡ does_next s x
  pub within : (own : Own) (t : Task) → slice_get s.program.tasks x ≡ Some t → slice_get s.machine.tasks x ≡ Some own → IsWithin s.program t own a
  pub place : (own : Own) → slice_get s.machine.tasks x ≡ Some own → CanGoOn own a
  pub part : x < length s.machine.tasks

-- these are what the next instructions of all tasks come to
abbrev pub AreNext : State → List Action → Type 0
AreNext s actions = (x : ℕ) (a : Action) → slice_get actions x ≡ Some a → IsNext s x a

-- the flag of task x says whether it is ready
abbrev pub IsFlagged : Bool → State → List Bool → ℕ → Type 0
IsFlagged clear s flags x = slice_get flags x ≡ Some (ready_by clear s x)

-- there is a place for each task and each monitor
pub record HasPlaces (s : State) (n : Notes) : Type 0 where
  pub actions : length n.actions ≡ length s.program.tasks
  pub flags : length n.ready ≡ length s.program.tasks
  pub rows : length n.rows ≡ length s.program.monitors
  pub words : (m : ℕ) (row : List ℕ) → slice_get n.rows m ≡ Some row → length row ≡ words_for (length s.program.tasks)
  pub blank : n.blank ≡ replicate (words_for (length s.program.tasks)) 0

-- what is noted of the next instruction of task x is so
pub record IsNoted (s : State) (n : Notes) (x : ℕ) : Type 0 where
  pub action : (a : Action) → slice_get n.actions x ≡ Some a → IsNext s x a
  pub bits : (m : ℕ) (row : List ℕ) → slice_get n.rows m ≡ Some row → bit row x ≡ as_bit (locks_at m (does_next s x))

-- task x is in no row
abbrev pub IsInNone : Notes → ℕ → Type 0
IsInNone n x = (m : ℕ) (row : List ℕ) → slice_get n.rows m ≡ Some row → bit row x ≡ 0

-- all that is noted is so
pub record AreNoted (s : State) (n : Notes) : Type 0 where
  pub places : HasPlaces s n
  pub each : (x : ℕ) → IsNoted s n x
  pub clear : n.clear ≡ clear_in s
  pub flags : (x : ℕ) → x < length s.program.tasks → slice_get n.ready x ≡ Some (ready_by n.clear s x)

-- Task x has executed an instruction, which took or gave back the lock of `touched`: what was noted of the task is old,
-- and so is whether those at a LOCK of that monitor are ready.
pub record IsLeft (x : ℕ) (touched : Option ℕ) (s : State) (n : Notes) : Type 0 where
  pub places : HasPlaces s n
  pub each : (y : ℕ) → (y ≡ x → ⊥) → IsNoted s n y
  pub rows : (m : ℕ) (row : List ℕ) → slice_get n.rows m ≡ Some row → (touched ≡ Some m → ⊥) → bit row x ≡ 0
  pub clear : is_init (kind_at (events_of s.events) x) ≡ false → n.clear ≡ clear_in s
  pub flags : (y : ℕ) → (y ≡ x → ⊥) → y < length s.program.tasks → ((m : ℕ) → touched ≡ Some m → locks_at m (does_next s y) ≡ false)
      → slice_get n.ready y ≡ Some (ready_by n.clear s y)

-- only whether task x is ready is old, and where it is of an initialisation also whether that is over
pub record IsStale (x : ℕ) (s : State) (n : Notes) : Type 0 where
  pub places : HasPlaces s n
  pub each : (y : ℕ) → IsNoted s n y
  pub clear : is_init (kind_at (events_of s.events) x) ≡ false → n.clear ≡ clear_in s
  pub flags : (y : ℕ) → (y ≡ x → ⊥) → y < length s.program.tasks → slice_get n.ready y ≡ Some (ready_by n.clear s y)

-- an entry came, and only whether the tasks are ready that it reaches is old
pub record IsReached (reaches : ℕ → Bool) (s : State) (n : Notes) : Type 0 where
  pub places : HasPlaces s n
  pub each : (y : ℕ) → IsNoted s n y
  pub clear : n.clear ≡ clear_in s
  pub flags : (y : ℕ) → reaches y ≡ false → y < length s.program.tasks → slice_get n.ready y ≡ Some (ready_by n.clear s y)

-- of the other tasks the same is noted, and the rest stays
pub record OthersStay (x : ℕ) (old new : Notes) : Type 0 where
  pub actions : (y : ℕ) → (y ≡ x → ⊥) → slice_get new.actions y ≡ slice_get old.actions y
  pub rows : (m : ℕ) (later : List ℕ) → slice_get new.rows m ≡ Some later → (row : List ℕ) × (slice_get old.rows m ≡ Some row) × ((y : ℕ) → (y ≡ x → ⊥) → bit later y ≡ bit row y)
  pub ready : new.ready ≡ old.ready
  pub clear : new.clear ≡ old.clear
