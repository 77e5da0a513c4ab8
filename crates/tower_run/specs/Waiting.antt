-- Whether the rule, over all tasks that are not idle, names a task that waits.
use Rattle.std.specs.Prelude.{ℕ, List, map, Bool, not}
use Rattle.tower_syntax.specs.View.{events_of}
use Rattle.task_code.specs.Standing.{standings, is_idle}
use Rattle.task_machine.specs.State.{State, holds}
use Rattle.task_code.specs.Tally.{names_waiting}
use Rattle.tower_run.specs.declared.scheduler.Scheduler.{Scheduler}
use Rattle.tower_run.specs.Scheduler.{names_by}

-- which tasks are not idle
abbrev pub busy_in : State → List Bool
busy_in s = map (λ st. not (is_idle st)) (standings s.program (events_of s.events) s.machine)

abbrev pub is_named_waiting : Scheduler → State → ℕ → Bool
is_named_waiting rule s k = names_waiting s.program (events_of s.events) s.machine (names_by rule (busy_in s) (holds s) k)
