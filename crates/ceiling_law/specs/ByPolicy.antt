-- Whom a rule names, and runs that go by a rule.
use Rattle.std.specs.Prelude.{◌≡◌, ℕ, List, [], ◌∷◌, map, not, Option, None, Some}
use Rattle.tower_syntax.specs.Arch.{Events}
use Rattle.task_code.specs.Program.{Program}
use Rattle.task_code.specs.Own.{held_monitor}
use Rattle.task_code.specs.Machine.{Machine}
use Rattle.task_code.specs.Standing.{is_ready, is_idle, standings}
use Rattle.task_code.specs.Run.{Run, Step, Turn, Event, step}
use Rattle.task_code.specs.Policy.{Policy}

module _ (policy : Policy) (p : Program) (events : Events) where
  -- of the tasks that are ready
  abbrev pub named_ready : Machine → ℕ → Option ℕ
  named_ready m k = policy.names (map is_ready (standings p events m)) (map held_monitor m.tasks) k

  -- of all tasks that are not idle
  abbrev pub named_busy : Machine → ℕ → Option ℕ
  named_busy m k = policy.names (map (λ s. not (is_idle s)) (standings p events m)) (map held_monitor m.tasks) k

  -- an instruction is that of a task that the rule names of the ready ones, for some number
  abbrev pub IsNamed : Run → Step → Type 0
  IsNamed r (Turn x) = (k : ℕ) × (named_ready r.machine k ≡ Some x)
  IsNamed r Event = Unit {0}

  -- each of these steps is, as far as they are defined
  abbrev pub GoBy : Option Run → List Step → Type 0
  GoBy o [] = Unit {0}
  GoBy None (s ∷ ss) = Unit {0}
  GoBy (Some r) (s ∷ ss) = IsNamed r s × GoBy (step p events r s) ss
