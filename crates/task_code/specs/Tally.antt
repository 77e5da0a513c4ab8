-- What is counted along a run: where a rule names a task that waits, and how much each core does.
use Rattle.std.specs.Prelude.{ℕ, ◌+◌, ◌==◌, List, [], ◌∷◌, map, cond, Bool, true, false, not, Option, Some, None}
use Rattle.tower_syntax.specs.Arch.{Events}
use Rattle.tower_syntax.specs.Graph.{numbers_before}
use Rattle.task_code.specs.Program.{Program}
use Rattle.task_code.specs.Own.{held_monitor}
use Rattle.task_code.specs.Machine.{Machine}
use Rattle.task_code.specs.Standing.{Standing, IsWaiting, standing, standings, is_ready, is_idle}
use Rattle.task_code.specs.Run.{Run, step, first_run}
use Rattle.task_code.specs.Policy.{Policy, priorities}
use Rattle.task_code.specs.Cores.{core_at}
use Rattle.task_code.specs.Plan.{Planned, goes, comes, step_of}

-- ---- waiting tasks

abbrev pub is_waiting : Standing → Bool
is_waiting (IsWaiting m) = true
is_waiting _ = false

abbrev pub names_waiting : Program → Events → Machine → Option ℕ → Bool
names_waiting p events m None = false
names_waiting p events m (Some x) = is_waiting (standing p events m x)

-- does the policy, over all tasks that are not idle, name a waiting task before this step
abbrev pub waits_before : Policy → Program → Events → Machine → Planned → Bool
waits_before policy p events m comes = false
waits_before policy p events m (goes k x) =
    names_waiting p events m (policy.names (map (λ s. not (is_idle s)) (standings p events m)) (map held_monitor m.tasks) k)

-- the number of steps before which it does
abbrev pub waits : Policy → Program → Events → Option Run → List Planned → ℕ
waits policy p events o [] = 0
waits policy p events None (s ∷ ss) = 0
waits policy p events (Some r) (s ∷ ss) =
    cond (waits_before policy p events r.machine s) 1 0 + waits policy p events (step p events r (step_of s)) ss

-- ---- cores

-- is this step an instruction on core i of so many
abbrev pub is_on : ℕ → Program → Events → ℕ → Machine → Planned → Bool
is_on cores p events i m comes = false
is_on cores p events i m (goes k x) = core_at (priorities p) cores (map is_ready (standings p events m)) k == i

-- the number of instructions on core i
abbrev pub ran_on : ℕ → Program → Events → ℕ → Option Run → List Planned → ℕ
ran_on cores p events i o [] = 0
ran_on cores p events i None (s ∷ ss) = 0
ran_on cores p events i (Some r) (s ∷ ss) = cond (is_on cores p events i r.machine s) 1 0 + ran_on cores p events i (step p events r (step_of s)) ss

-- that of each core, from the start
abbrev pub core_counts : ℕ → Program → Events → List Planned → List ℕ
core_counts cores p events steps = map (λ i. ran_on cores p events i (Some (first_run p events)) steps) (numbers_before cores [])
