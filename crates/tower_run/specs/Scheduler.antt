-- The rules for turns that a run can go by.
use Rattle.std.specs.Prelude.{◌≡◌, ℕ, ◌%◌, List, [], map, length, Bool, true, false, Option, Some, None, slice_get}
use Rattle.tower_syntax.specs.Arch.{Arch}
use Rattle.task_code.specs.Program.{Program}
use Rattle.task_code.specs.Policy.{Policy, fixed_names, priorities}
use Rattle.task_code.specs.Ceiling.{ceiling_names, ceilings}
use Rattle.task_code.specs.Cores.{cores_names, core_at}
use Rattle.task_machine.specs.Policy.{IsLawful}
use Rattle.task_machine.specs.Lawful.{fixed_is_lawful}
use Rattle.task_policies.specs.Rules.{CeilingRule, CoresRule, core_count}
use Rattle.task_policies.specs.Lawful.{ceiling_is_lawful, some_cores_are_lawful}
use Rattle.tower_report.specs.declared.rule.Rule.{Rule}
use Rattle.tower_report.specs.declared.rule.Rule.TheVariants as rule
use Rattle.tower_run.specs.declared.scheduler.Scheduler.{Scheduler}
use Rattle.tower_run.specs.declared.scheduler.Scheduler.TheVariants as by

-- the priorities that a rule was made for
abbrev pub priorities_of : Scheduler → List ℕ
priorities_of (by.Fixed ps) = ps
priorities_of (by.Ceiling r) = r.priorities
priorities_of (by.Cores r) = r.priorities

-- the number of monitors, where it was made for one
abbrev pub monitors_of : Scheduler → Option ℕ
monitors_of (by.Fixed ps) = None
monitors_of (by.Ceiling r) = Some (length r.ceilings)
monitors_of (by.Cores r) = None

abbrev pub names_by : Scheduler → List Bool → List (Option ℕ) → ℕ → Option ℕ
names_by (by.Fixed ps) = fixed_names ps
names_by (by.Ceiling r) = ceiling_names r.priorities r.ceilings
names_by (by.Cores r) = cores_names r.priorities (core_count r)

abbrev pub otherwise_by : Scheduler → ℕ → ℕ
otherwise_by (by.Fixed ps) n = 0
otherwise_by (by.Ceiling r) n = 0
otherwise_by (by.Cores r) n = n % core_count r

abbrev pub policy_by : Scheduler → Policy
policy_by s = record { names = names_by s; otherwise = otherwise_by s }

-- how many cores it tells apart
abbrev pub cores_by : Scheduler → ℕ
cores_by (by.Fixed ps) = 0
cores_by (by.Ceiling r) = 0
cores_by (by.Cores r) = core_count r

-- the core of an instruction
abbrev pub core_by : Scheduler → List Bool → ℕ → Option ℕ
core_by (by.Fixed ps) ready k = None
core_by (by.Ceiling r) ready k = None
core_by (by.Cores r) ready k = Some (core_at r.priorities (core_count r) ready k)

-- the rule that was given, for these priorities and ceilings; that of fixed priorities where none was
abbrev pub scheduler_of : Option Rule → List ℕ → List ℕ → Scheduler
scheduler_of None ps cs = by.Fixed ps
scheduler_of (Some rule.Fixed) ps cs = by.Fixed ps
scheduler_of (Some rule.Ceiling) ps cs = by.Ceiling (record { priorities = ps; ceilings = cs })
scheduler_of (Some (rule.Cores n)) ps cs = by.Cores (record { priorities = ps; cores = n })

-- are the instructions counted before which the rule names a waiting task
abbrev pub counts_waits : Option Rule → Bool
counts_waits None = false
counts_waits (Some rule.Fixed) = true
counts_waits (Some rule.Ceiling) = true
counts_waits (Some (rule.Cores n)) = false

pub scheduler_is_lawful : (s : Scheduler) (ready : List Bool) (holds : List (Option ℕ)) (k : ℕ) → IsLawful ready (names_by s ready holds k)
scheduler_is_lawful (by.Fixed ps) ready holds k = fixed_is_lawful ps ready holds k
scheduler_is_lawful (by.Ceiling r) ready holds k = ceiling_is_lawful r.priorities r.ceilings ready holds k
scheduler_is_lawful (by.Cores r) ready holds k = some_cores_are_lawful r.priorities r.cores ready holds k

-- some task is ready
abbrev pub HasReady : List Bool → Type 0
HasReady ready = (x : ℕ) × (slice_get ready x ≡ Some true)
