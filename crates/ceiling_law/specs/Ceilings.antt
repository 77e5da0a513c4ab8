-- What the ceiling rule keeps in each run of a sound program.
use Rattle.std.specs.Prelude.{◌≡◌, ℕ, ◌<◌, ◌≤◌, List, map, Some, slice_get, slice_index}
use Rattle.tower_syntax.specs.Arch.{Arch, Events}
use Rattle.tower_meaning.specs.Atomic.{Fit}
use Rattle.task_code.specs.Program.{Program}
use Rattle.task_code.specs.Own.{held_monitor}
use Rattle.task_code.specs.Standing.{IsReady, standing}
use Rattle.task_code.specs.Run.{Run, Step, first_run, reached}
use Rattle.task_code.specs.Policy.{priorities}
use Rattle.task_code.specs.Ceiling.{ceiling_of, ceiling}
use Rattle.task_code.specs.Plan.{Planned}
use Rattle.task_code.specs.Tally.{waits}
use Rattle.ceiling_law.specs.ByPolicy.{named_ready, named_busy, GoBy}

-- over all tasks that are not idle the rule names for each number whom it names of the ready ones
abbrev pub NamesTheSame : Arch → Program → Events → Run → Type 0
NamesTheSame arch p events r = (k : ℕ) → named_busy (ceiling arch p) p events r.machine k ≡ named_ready (ceiling arch p) p events r.machine k

-- whom it names of all tasks that are not idle is ready
abbrev pub NamesTheReady : Arch → Program → Events → Run → Type 0
NamesTheReady arch p events r = (k x : ℕ) → named_busy (ceiling arch p) p events r.machine k ≡ Some x → standing p events r.machine x ≡ IsReady

-- task x holds monitor m
abbrev pub Holds : Run → ℕ → ℕ → Type 0
Holds r x m = slice_get (map held_monitor r.machine.tasks) x ≡ Some (Some m)

-- task x is less urgent than n, and holds a monitor whose ceiling is n or more
pub record IsRaised (arch : Arch) (p : Program) (n : ℕ) (r : Run) (x : ℕ) : Type 0 where
  pub low : slice_index (priorities p) x < n
  pub monitor : ℕ
  pub holds : Holds r x monitor
  pub high : n ≤ ceiling_of arch monitor

-- such a task is one only
abbrev pub OneIsRaised : Arch → Program → Run → Type 0
OneIsRaised arch p r = (n x y : ℕ) → IsRaised arch p n r x → IsRaised arch p n r y → x ≡ y

-- in each run by the rule
abbrev pub OneIsRaisedByRule : Arch → Program → Type 0
OneIsRaisedByRule arch p =
    (events : Events) (steps : List Step) (r : Run) → Fit arch events → GoBy (ceiling arch p) p events (Some (first_run p events)) steps
    → reached p events steps ≡ Some r → OneIsRaised arch p r

-- of no steps is there one before which the rule names a waiting task
abbrev pub NeverWaits : Arch → Program → Type 0
NeverWaits arch p = (events : Events) (steps : List Planned) → Fit arch events → waits (ceiling arch p) p events (Some (first_run p events)) steps ≡ 0
