-- What a window of a period promises.
use Rattle.std.specs.Prelude.{◌≡◌, ℕ, suc, ◌<◌, ◌≤◌, ◌%◌, ◌∷◌, ◌++◌, List, length, take, true, Some, slice_get}
use Rattle.tower_syntax.specs.Arch.{Arch, Events, tick}
use Rattle.tower_syntax.specs.Arrival.{ticks}
use Rattle.tower_syntax.specs.Typed.{IsTyped}
use Rattle.tower_syntax.specs.WellNumbered.{IsWellNumbered}
use Rattle.tower_meaning.specs.Atomic.{Fit}
use Rattle.task_code.specs.declared.program.Task.{Task}
use Rattle.task_code.specs.Program.{Program}
use Rattle.task_code.specs.Own.{Own}
use Rattle.task_code.specs.Machine.{queue}
use Rattle.task_code.specs.Standing.{is_clear}
use Rattle.task_code.specs.Run.{Run, Step, Event, reached}
use Rattle.task_code.specs.Ceiling.{source_priority}
use Rattle.lock_reduction.specs.Reduce.{Sound}
use Rattle.stretch_law.specs.Machine.{Period}
use Rattle.stretch_law.specs.Demand.{IsWindow}
use Rattle.bound_law.specs.Seen.{tasks_of}
use Rattle.bound_law.specs.Timed.{IsTimed, IsOrdered, IsBetween, Throughout}

-- w intervals are a window of the period i with these ms: at this rate they carry what they may have to carry
abbrev pub HasWindow : Arch → ℕ → ℕ → ℕ → ℕ → ℕ → Type 0
HasWindow arch rate gap i ms w = IsWindow (tasks_of arch) rate gap (source_priority arch i) ms w

-- the next entry is a tick that brings a message to each period of these ms
pub record IsDue (events : Events) (ms : ℕ) (r : Run) : Type 0 where
  pub entry : slice_get events.entries r.machine.place ≡ Some tick
  pub due : suc (ticks (take r.machine.place events.entries)) % ms ≡ 0

-- task i is at TAKE with an empty queue
pub record IsAtRest (p : Program) (i : ℕ) (r : Run) : Type 0 where
  pub task : Task
  pub own : Own
  pub is : slice_get p.tasks i ≡ Some task
  pub has : slice_get r.machine.tasks i ≡ Some own
  pub clear : is_clear task own (queue r.machine i) ≡ true

-- a run that is paced, sampled, spaced and by ceiling; the stretches in it are those of the priority of source i
abbrev pub IsTimelyRun : Arch → Program → Events → ℕ → ℕ → ℕ → List Step → Type 0
IsTimelyRun arch p events rate gap i steps =
    Throughout arch p events (source_priority arch i) (IsTimed arch p events (source_priority arch i) rate gap) steps

-- In each such run of a sound program, whatever record fits, task i rests just before each entry that brings it a message:
-- `before` are the steps up to that entry, and `after` those behind it.
abbrev pub EndsInTime : Arch → ℕ → ℕ → ℕ → ℕ → Type 0
EndsInTime arch rate gap i ms =
    (p : Program) (events : Events) (before after : List Step) (r : Run) → Sound arch p → Fit arch events
    → IsTimelyRun arch p events rate gap i (before ++ Event ∷ after) → reached p events before ≡ Some r → IsDue events ms r → IsAtRest p i r

-- what a window promises
abbrev pub WindowsPromise : Type 0
WindowsPromise =
    (arch : Arch) (rate gap i ms w : ℕ) → IsWellNumbered arch → IsTyped arch → 1 ≤ gap → i < length arch.sources → (tasks_of arch).kind i ≡ Period ms
    → HasWindow arch rate gap i ms w → EndsInTime arch rate gap i ms

-- the middle statement, of each sampled and spaced run by ceiling
abbrev pub StretchesAreShort : Type 0
StretchesAreShort =
    (arch : Arch) (p : Program) (events : Events) (n gap : ℕ) (steps : List Step) → IsWellNumbered arch → IsTyped arch → Sound arch p → Fit arch events
    → 1 ≤ gap → Throughout arch p events n (IsOrdered arch p events n gap) steps → Throughout arch p events n (IsBetween arch p events n gap) steps
