-- What the next entry of the record is, and which sources it reaches.
use Rattle.std.specs.Prelude.{◌≡◌, ◌==◌, ℕ, Bool, true, false, length, take, Option, Some, None, slice_get}
use Rattle.tower_syntax.specs.Arch.{Entry, tick, signal}
use Rattle.tower_syntax.specs.Arrival.{is_init, is_due, ticks}
use Rattle.tower_syntax.specs.View.{events_of}
use Rattle.task_code.specs.Standing.{kind_at}
use Rattle.task_machine.specs.State.{State}
use Rattle.task_machine.specs.declared.machine.Came.{Came}
use Rattle.task_machine.specs.declared.machine.Came.TheVariants as came
use Rattle.task_machine.specs.declared.running.Arrival.{Arrival}
use Rattle.task_machine.specs.declared.running.Arrival.TheVariants.{Tick, Signal}

-- a signal for source x
abbrev pub IsSignal : ℕ → Option Entry → Type 0
IsSignal x None = ⊥
IsSignal x (Some tick) = ⊥
IsSignal x (Some (signal y v)) = y ≡ x

abbrev pub IsArrival : Option Arrival → Option Entry → Type 0
IsArrival None e = e ≡ None
IsArrival (Some Tick) e = e ≡ Some tick
IsArrival (Some (Signal x)) e = IsSignal x e

abbrev pub came_of : Option Arrival → Came
came_of None = came.NoMore
came_of (Some a) = came.Arrived

-- once it has come: did it bring a message to source y, also one that was dropped
abbrev pub reaches : Option Arrival → State → ℕ → Bool
reaches None s y = false
reaches (Some Tick) s y = is_due (ticks (take s.machine.place (events_of s.events).entries)) (kind_at (events_of s.events) y)
reaches (Some (Signal x)) s y = x == y

-- no part of a task, no lock, and no queue of a source that it does not reach changes; it reaches no initialisation
pub record Stays (reached : ℕ → Bool) (s t : State) : Type 0 where
  pub program : t.program ≡ s.program
  pub events : t.events ≡ s.events
  pub tasks : t.machine.tasks ≡ s.machine.tasks
  pub locks : t.machine.locks ≡ s.machine.locks
  pub count : length t.machine.queues ≡ length s.machine.queues
  pub queues : (y : ℕ) → reached y ≡ false → slice_get t.machine.queues y ≡ slice_get s.machine.queues y
  pub inits : (y : ℕ) → is_init (kind_at (events_of s.events) y) ≡ true → reached y ≡ false
