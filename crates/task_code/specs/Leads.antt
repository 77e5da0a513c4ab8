-- Private instructions of one task, one after another.
use Rattle.std.specs.Prelude.{◌≡◌, ℕ, zero, suc, ◌≤◌, ℤ, List}
use Rattle.task_code.specs.declared.program.Task.{Task}
use Rattle.task_code.specs.Program.{Program}
use Rattle.task_code.specs.Own.{Own}
use Rattle.task_code.specs.Does.{Private, does}

-- n private instructions lead from u to v
abbrev pub Privately : Program → Task → ℕ → Own → Own → Type 0
Privately p t zero u v = u ≡ v
Privately p t (suc n) u v = (w : Own) × (does p t u ≡ Private w) × Privately p t n w v

-- at most so many do
pub record Leads (p : Program) (t : Task) (most : ℕ) (u v : Own) : Type 0 where
  pub steps : ℕ
  pub few : steps ≤ most
  pub privately : Privately p t steps u v

-- the task at a place, with these words on its stack
abbrev pub at : Own → ℕ → List ℤ → Own
at own place stack = record own { place = place; stack = stack }
