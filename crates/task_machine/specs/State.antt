-- A machine that runs, and its steps.
use Rattle.std.specs.Prelude.{◌≡◌, ℕ, ℤ, List, map, Bool, Option, Some, None, slice_get}
use Rattle.tower_syntax.specs.declared.event.Events.{Events as EventsValue}
use Rattle.tower_syntax.specs.View.{events_of}
use Rattle.tower_syntax.specs.Arch.{Entry}
use Rattle.task_code.specs.Program.{Program}
use Rattle.task_code.specs.Own.{held_monitor}
use Rattle.task_code.specs.Does.{Does}
use Rattle.task_code.specs.Machine.{Machine, first_machine, next_does, after, received}
use Rattle.task_code.specs.Standing.{Standing, IsReady, is_ready, standing, standings}
use Rattle.task_code.specs.Run.{is_visible, mark_of, written_by}
use Rattle.task_machine.specs.declared.machine.Went.{Went}
use Rattle.task_machine.specs.declared.machine.Went.TheVariants as went
use Rattle.task_machine.specs.declared.machine.Came.{Came}
use Rattle.task_machine.specs.declared.machine.Came.TheVariants as came

-- a step of a task: whether its instruction was visible, and what OUT wrote
pub record Turned : Type 0 where
  pub task : ℕ
  pub visible : Bool
  pub wrote : Option (ℕ × List ℤ)

-- `last` has the last step, if that was one of a task
pub record State : Type 0 where
  pub program : Program
  pub events : EventsValue
  pub machine : Machine
  pub last : Option Turned

abbrev pub first_of : {X : Type 0} → List X → Option X
first_of xs = slice_get xs 0

abbrev pub start : Program → EventsValue → State
start p events = record { program = p; events = events; machine = first_machine p (events_of events); last = None }

abbrev pub standing_in : State → ℕ → Standing
standing_in s x = standing s.program (events_of s.events) s.machine x

-- which tasks are ready, and which locks they hold
abbrev pub ready : State → List Bool
ready s = map is_ready (standings s.program (events_of s.events) s.machine)

abbrev pub holds : State → List (Option ℕ)
holds s = map held_monitor s.machine.tasks

abbrev pub does_next : State → ℕ → Does
does_next s x = next_does s.program s.machine x

abbrev pub turn_of : ℕ → Does → Turned
turn_of x d = record { task = x; visible = is_visible d; wrote = first_of (written_by d) }

-- after task x did this
abbrev pub turned : State → ℕ → Does → State
turned s x d = record s { machine = after s.machine x d; last = Some (turn_of x d) }

-- a `go` for which the rule names this task: it executes one instruction, and the mark is what that makes
abbrev pub Goes : State → Option ℕ → Went → State → Type 0
Goes s None result t = (result ≡ went.NoneReady) × (t ≡ s)
Goes s (Some x) result t =
    (standing_in s x ≡ IsReady) × (result ≡ went.Stepped (first_of (mark_of x (does_next s x)))) × (t ≡ turned s x (does_next s x))

abbrev pub arrived : State → Entry → State
arrived s e = record s { machine = received (events_of s.events) s.machine e; last = None }

-- the next entry of the record comes, if there is one
abbrev pub Comes : State → Option Entry → Came → State → Type 0
Comes s None result t = (result ≡ came.NoMore) × (t ≡ s)
Comes s (Some e) result t = (result ≡ came.Arrived) × (t ≡ arrived s e)

abbrev pub next_entry : State → Option Entry
next_entry s = slice_get (events_of s.events).entries s.machine.place

abbrev wrote_by : Option Turned → Option (ℕ × List ℤ)
wrote_by None = None
wrote_by (Some t) = t.wrote

-- what the last step wrote, where it was an OUT
abbrev pub wrote_last : State → Option (ℕ × List ℤ)
wrote_last s = wrote_by s.last
