-- What a user asks of every run of a sound program.
use Rattle.std.specs.Prelude.{◌≡◌, ◌≢◌, ℕ, ◌<◌, List, [], length, map, Some, slice_get}
use Rattle.tower_types.specs.Value.{flat}
use Rattle.tower_syntax.specs.Arch.{Arch, Events}
use Rattle.tower_meaning.specs.System.{system_of}
use Rattle.tower_meaning.specs.Atomic.{Atomic, Fit, replay}
use Rattle.task_code.specs.Program.{Program}
use Rattle.task_code.specs.Own.{held_monitor}
use Rattle.task_code.specs.Machine.{queue}
use Rattle.task_code.specs.Standing.{IsIdle, IsWaiting, IsReady, standing}
use Rattle.task_code.specs.Run.{Run, Step, reached}

-- this holds of each run over a record that fits
abbrev pub InEachRun : Arch → Program → (Events → Run → Type 0) → Type 0
InEachRun arch p What = (events : Events) (steps : List Step) (r : Run) → Fit arch events → reached p events steps ≡ Some r → What events r

-- the marks replay, and what OUT wrote is what the replay gives, in its order
abbrev pub GivesOutputs : Arch → Events → Run → Type 0
GivesOutputs arch events r =
    (a : Atomic) × (replay (system_of arch) events r.marks ≡ Some a) × (r.written ≡ map (λ o. (o.0, flat o.1)) a.outputs)

-- no task waits for a lock that it holds itself
abbrev pub NoneWaitsForItself : Program → Events → Run → Type 0
NoneWaitsForItself p events r =
    (x m k : ℕ) → standing p events r.machine x ≡ IsWaiting m → slice_get (map held_monitor r.machine.tasks) x ≢ Some (Some k)

-- where a task waits, it is not so that none can step
abbrev pub NoDeadlock : Program → Events → Run → Type 0
NoDeadlock p events r =
    (x m : ℕ) → x < length p.tasks → standing p events r.machine x ≡ IsWaiting m
    → ((y : ℕ) → y < length p.tasks → standing p events r.machine y ≢ IsReady) → ⊥

-- where no task can step, all are idle and no message waits
abbrev pub RestsIdle : Program → Events → Run → Type 0
RestsIdle p events r =
    ((x : ℕ) → x < length p.tasks → standing p events r.machine x ≢ IsReady)
    → (x : ℕ) → x < length p.tasks → (standing p events r.machine x ≡ IsIdle) × (queue r.machine x ≡ [])
