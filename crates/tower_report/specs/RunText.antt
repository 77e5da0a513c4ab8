-- The text of a run: what each step of its plan shows, and how it ends.
use Rattle.std.specs.Prelude.{ℕ, ◌+◌, ◌≤◌, List, [], ◌∷◌, ◌++◌, flat_map, Option, Some, None}
use Rattle.tower_syntax.specs.declared.event.Choice.{Choice}
use Rattle.tower_syntax.specs.declared.event.Mark.TheVariants as mark
use Rattle.tower_syntax.specs.Arch.{Arch, Events}
use Rattle.task_code.specs.Program.{Program}
use Rattle.task_code.specs.Does.{Does}
use Rattle.task_code.specs.Machine.{Machine, next_does}
use Rattle.task_code.specs.Run.{Run, step, first_run, mark_of, written_by}
use Rattle.task_code.specs.Policy.{Policy, fixed}
use Rattle.task_code.specs.Ceiling.{ceiling}
use Rattle.task_code.specs.Cores.{cores}
use Rattle.task_code.specs.Plan.{Planned, goes, comes, step_of, instructions, plan}
use Rattle.task_code.specs.Tally.{waits, core_counts}
use Rattle.tower_report.specs.declared.rule.Rule.{Rule}
use Rattle.tower_report.specs.declared.rule.Rule.TheVariants as rule
use Rattle.tower_report.specs.Bytes.{Bytes}
use Rattle.tower_report.specs.MarkText.{mark_line, out_line}
use Rattle.tower_report.specs.EndText.{Tally, end_text}

-- that of `fixed` where no rule is given
abbrev pub policy_of : Option Rule → Arch → Program → Policy
policy_of None arch p = fixed p
policy_of (Some rule.Fixed) arch p = fixed p
policy_of (Some rule.Ceiling) arch p = ceiling arch p
policy_of (Some (rule.Cores n)) arch p = cores n p

-- a number of cores is from 1 to 64
abbrev pub IsRule : Rule → Type 0
IsRule rule.Fixed = Unit {0}
IsRule rule.Ceiling = Unit {0}
IsRule (rule.Cores n) = (1 ≤ n) × (n ≤ 64)

-- ---- the steps

-- task x did this, as instruction number n
abbrev pub does_text : Arch → ℕ → ℕ → Does → Bytes
does_text arch n x d = flat_map (mark_line arch n) (mark_of x d) ++ flat_map (out_line arch) (written_by d)

-- a step of this machine, after n instructions
abbrev pub step_text : Arch → Program → Machine → ℕ → Planned → Bytes
step_text arch p m n (goes k x) = does_text arch (n + 1) x (next_does p m x)
step_text arch p m n comes = mark_line arch n mark.Arrive

-- steps from a run of n instructions, as far as they are defined
abbrev pub steps_text : Arch → Program → Events → ℕ → Option Run → List Planned → Bytes
steps_text arch p events n o [] = []
steps_text arch p events n None (s ∷ ss) = []
steps_text arch p events n (Some r) (s ∷ ss) =
    step_text arch p r.machine n s ++ steps_text arch p events (n + instructions (s ∷ [])) (step p events r (step_of s)) ss

-- ---- what is counted

-- the instructions before which the rule names a waiting task, where it is `fixed` or `ceiling`
abbrev pub waits_by : Option Rule → Arch → Program → Events → List Planned → Option ℕ
waits_by None arch p events steps = None
waits_by (Some rule.Fixed) arch p events steps = Some (waits (fixed p) p events (Some (first_run p events)) steps)
waits_by (Some rule.Ceiling) arch p events steps = Some (waits (ceiling arch p) p events (Some (first_run p events)) steps)
waits_by (Some (rule.Cores n)) arch p events steps = None

-- the instructions on each core, where there are several
abbrev pub cores_by : Option Rule → Program → Events → List Planned → List ℕ
cores_by None p events steps = []
cores_by (Some rule.Fixed) p events steps = []
cores_by (Some rule.Ceiling) p events steps = []
cores_by (Some (rule.Cores n)) p events steps = core_counts n p events steps

abbrev pub tally_of : Option Rule → Arch → Program → Events → List Planned → Tally
tally_of given arch p events steps = record {
  count = instructions steps;
  waits = waits_by given arch p events steps;
  cores = cores_by given p events steps;
}

-- ---- the whole

-- of the run with these choices and at most so many instructions
abbrev pub run_text : Arch → Program → Events → List Choice → ℕ → Option Rule → Bytes
run_text arch p events choices limit given =
    let planned = plan (policy_of given arch p) p events choices limit in
    steps_text arch p events 0 (Some (first_run p events)) planned.steps
    ++ end_text arch planned.run.machine (tally_of given arch p events planned.steps) planned.stopped
