-- The machine that runs a program, as the bounds see it.
use Rattle.std.specs.Prelude.{ℕ, ℤ, true, false, ◌==◌, List, map, take, length, Option, Some, None, slice_get, slice_index, slice_index_or}
use Rattle.tower_syntax.specs.declared.arch.SourceKind.{SourceKind}
use Rattle.tower_syntax.specs.declared.arch.SourceKind.TheVariants as kind
use Rattle.tower_syntax.specs.Arch.{Arch, Entry, tick, signal, Events}
use Rattle.tower_syntax.specs.Arrival.{ticks}
use Rattle.tower_syntax.specs.Weights.{cost}
use Rattle.task_code.specs.declared.program.Task.{Task}
use Rattle.task_code.specs.Program.{Program}
use Rattle.task_code.specs.Own.{Own, held_monitor}
use Rattle.task_code.specs.Does.{at_take}
use Rattle.task_code.specs.Machine.{queue}
use Rattle.task_code.specs.Standing.{standing}
use Rattle.task_code.specs.Standing as task
use Rattle.task_code.specs.Run.{Run, step, first_run, reached, came}
use Rattle.task_code.specs.Run as run
use Rattle.task_code.specs.Ceiling.{touches, ceiling_of}
use Rattle.stretch_law.specs.Machine.{Kind, Init, Period, Signal, Tasks, Seen, Standing, IsStuck, IsIdle, IsWaiting, IsReady, Move, Turn, Tick, Sent}
use Rattle.stretch_law.specs.Machine as bounds

abbrev pub kind_of : SourceKind → Kind
kind_of kind.Init = Init
kind_of (kind.Period ms) = Period ms
kind_of kind.Signal = Signal

-- what the bounds see of a system: so many tasks, of these kinds and priorities
abbrev pub tasks_with : Arch → ℕ → List SourceKind → List ℕ → Tasks
tasks_with arch n kinds priorities = record {
  count = n;
  kind = λ x. kind_of (slice_index_or kinds x kind.Signal);
  priority = slice_index priorities;
  cost = cost arch;
  monitors = length arch.monitors;
  touches = touches arch;
  ceiling = ceiling_of arch;
}

-- one task for each source
abbrev pub tasks_of : Arch → Tasks
tasks_of arch = tasks_with arch (length arch.sources) (map (λ s. s.kind) arch.sources) (map (λ s. s.priority) arch.sources)

abbrev pub seen_of : Option Task → Option Own → List (List ℤ) → ℕ → Seen
seen_of (Some t) (Some own) q n = record { rests = at_take t own; queued = length q; holds = held_monitor own; since = n }
seen_of _ _ q n = record { rests = false; queued = length q; holds = None; since = n }

abbrev pub see : Program → Run → ℕ → Seen
see p r x = seen_of (slice_get p.tasks x) (slice_get r.machine.tasks x) (queue r.machine x) (slice_index r.since x)

abbrev pub standing_as : task.Standing → Standing
standing_as task.IsStuck = IsStuck
standing_as task.IsIdle = IsIdle
standing_as (task.IsWaiting m) = IsWaiting m
standing_as task.IsReady = IsReady

-- the next entry, where it is a tick
abbrev pub if_tick : Option Entry → Option Entry
if_tick (Some tick) = Some tick
if_tick _ = None

-- the next entry, where it is one of signal x
abbrev pub if_signal : ℕ → Option Entry → Option Entry
if_signal x (Some (signal y v)) = elim (y == x) [ true ↦ Some (signal y v) | false ↦ None ]
if_signal x _ = None

abbrev pub next : Program → Events → Run → Move → Option Run
next p events r (Turn x) = step p events r (run.Turn x)
next p events r Tick = came events r (if_tick (slice_get events.entries r.machine.place))
next p events r (Sent x) = came events r (if_signal x (slice_get events.entries r.machine.place))

abbrev pub machine_of : Program → Events → bounds.Machine Run
machine_of p events = record {
  start = first_run p events;
  next = next p events;
  see = see p;
  stands = λ r x. standing_as (standing p events r.machine x);
  ticks = λ r. ticks (take r.machine.place events.entries);
}
