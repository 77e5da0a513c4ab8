-- What the tasks of a system have to do.
use Rattle.std.specs.Prelude.{ℕ, ◌<◌, ◌≡◌, ◌==◌, List, [], map, filter, length, slice_index_or, Bool, false}
use Rattle.std.specs.List.{list_any}
use Rattle.tower_syntax.specs.Arch.{Arch}
use Rattle.tower_syntax.specs.Graph.{handler, numbers_before, reached_by}
use Rattle.tower_syntax.specs.Weights.{source_numbers}
use Rattle.thread_split.specs.declared.plan.TaskPlan.{TaskPlan}

-- does one of these handlers work on the monitor
abbrev pub works_on : Arch → List ℕ → ℕ → Bool
works_on arch hs m = list_any (λ h. (handler arch h).monitor == m) hs

-- the monitors that these handlers work on, ascending
abbrev pub monitors_of : Arch → List ℕ → List ℕ
monitors_of arch hs = filter (works_on arch hs) (numbers_before (length arch.monitors) [])

abbrev pub priority_of : Arch → ℕ → ℕ
priority_of arch s = slice_index_or (map (λ x. x.priority) arch.sources) s 0

abbrev pub plan_of : Arch → ℕ → TaskPlan
plan_of arch s = record {
  source = s;
  priority = priority_of arch s;
  handlers = reached_by arch s;
  monitors = monitors_of arch (reached_by arch s);
}

-- one for each source, in file order
abbrev pub plans_of : Arch → List TaskPlan
plans_of arch = map (plan_of arch) (source_numbers arch)

-- the marks are those of the monitors that these handlers work on
pub record AreWorkedOn (arch : Arch) (hs : List ℕ) (marks : List Bool) : Type 0 where
  pub each : length marks ≡ length arch.monitors
  pub has : (m : ℕ) → m < length arch.monitors → slice_index_or marks m false ≡ works_on arch hs m
