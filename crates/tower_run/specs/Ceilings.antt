-- How ceilings are found: each task raises those of its monitors.
use Rattle.std.specs.Prelude.{ℕ, max, ◌<◌, List, [], All, fold, Option, Some, None, slice_index, slice_set}
use Rattle.tower_syntax.specs.Arch.{Arch}
use Rattle.task_code.specs.Ceiling.{ceilings}
use Rattle.thread_split.specs.declared.plan.TaskPlan.{TaskPlan}
use Rattle.tower_report.specs.declared.rule.Rule.{Rule}
use Rattle.tower_report.specs.declared.rule.Rule.TheVariants as rule

abbrev pub raised_at : ℕ → List ℕ → ℕ → List ℕ
raised_at priority found m = slice_set found m (max (slice_index found m) priority)

abbrev pub raised_by : List ℕ → TaskPlan → List ℕ
raised_by found plan = fold (raised_at plan.priority) found plan.monitors

abbrev pub HasMonitorsBelow : ℕ → TaskPlan → Type 0
HasMonitorsBelow n plan = All (λ m. m < n) plan.monitors

-- where the rule asks for them
abbrev pub ceilings_given : Option Rule → Arch → List ℕ
ceilings_given None arch = []
ceilings_given (Some rule.Fixed) arch = []
ceilings_given (Some rule.Ceiling) arch = ceilings arch
ceilings_given (Some (rule.Cores n)) arch = []
