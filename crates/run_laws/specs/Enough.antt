-- With how many instructions a run comes to its end.
use Rattle.std.specs.Prelude.{◌≡◌, ℕ, ◌≤◌, List, Bool, true, false, Option, Some, slice_get}
use Rattle.tower_syntax.specs.declared.event.Choice.{Choice}
use Rattle.tower_syntax.specs.Arch.{Arch, Events}
use Rattle.tower_meaning.specs.Atomic.{Fit}
use Rattle.task_code.specs.Program.{Program}
use Rattle.task_code.specs.Policy.{Policy}
use Rattle.task_code.specs.Plan.{plan, instructions}
use Rattle.lock_reduction.specs.Reduce.{Sound}
use Rattle.run_laws.specs.Costs.{costs}

-- a policy that names only ready tasks
abbrev pub NamesReady : Policy → Type 0
NamesReady policy = (ready : List Bool) (holds : List (Option ℕ)) (k x : ℕ) → policy.names ready holds k ≡ Some x → slice_get ready x ≡ Some true

-- with as many instructions as all messages cost, a run of a sound program does not stop before its end
abbrev pub EnoughNeverStops : Type 0
EnoughNeverStops = (policy : Policy) (arch : Arch) (p : Program) (events : Events) (choices : List Choice) (limit : ℕ)
    → NamesReady policy → Sound arch p → Fit arch events → costs arch events ≤ limit
    → (plan policy p events choices limit).stopped ≡ false

-- and whatever the limit, it executes no more than they cost
abbrev pub CostsAreMost : Type 0
CostsAreMost = (policy : Policy) (arch : Arch) (p : Program) (events : Events) (choices : List Choice) (limit : ℕ)
    → NamesReady policy → Sound arch p → Fit arch events
    → instructions (plan policy p events choices limit).steps ≤ costs arch events
