-- What a stretch of a task's code carries out, when the task runs alone.
use Rattle.std.specs.Prelude.{◌≡◌, ℕ, ◌+◌, ◌≤◌, true, List, ◌++◌, Some, None, slice_get}
use Rattle.tower_types.specs.Value.{Value, flat}
use Rattle.tower_meaning.specs.System.{Item}
use Rattle.task_code.specs.declared.program.Task.{Task}
use Rattle.task_code.specs.declared.program.Instr.TheVariants.{Lock, Unlock}
use Rattle.task_code.specs.Program.{Program}
use Rattle.task_code.specs.Own.{Own}
use Rattle.task_code.specs.Does.{on}
use Rattle.task_code.specs.Leads.{Leads}
use Rattle.task_alone.specs.Setting.{Setting}
use Rattle.task_alone.specs.Alone.{Safe}
use Rattle.task_code.specs.Holds.{HoldLists, buffers_at}

-- in a state with these parts the task is safe for n steps
abbrev pub SafeAt : Setting → Program → Task → ℕ → ℕ → Own → List Item → Value → ℕ → Type 0
SafeAt s p t x n own items handed since = Safe s p t x n (record { own = own; pending = items; handed = handed; since = since })

-- From each own part of the first kind the task carries out these items in their order, with all that follows from
-- them, in at most so many instructions, and comes to one of the second kind: what is safe then is safe before.
abbrev pub Visits : Setting → Program → Task → ℕ → (Own → Type 0) → List Item → ℕ → (Own → Type 0) → Type 0
Visits s p t x From items most To =
    (n : ℕ) (own : Own) (rest : List Item) (handed : Value) (since : ℕ) → From own → since + most ≤ s.cost x
    → ((own' : Own) (handed' : Value) (since' : ℕ) → To own' → since' ≤ since + most → SafeAt s p t x n own' rest handed' since')
    → SafeAt s p t x n own (items ++ rest) handed since

-- What a handler's code does with its message, from before its LOCK: whatever value v the monitor has, private
-- instructions lead to its UNLOCK, with the words and the lists of the effect, and After v holds behind it.
pub record Unlocking (s : Setting) (p : Program) (t : Task) (x h : ℕ) (message v : Value) (most : ℕ) (locked : Own) (After : Own → Type 0) : Type 0 where
  pub own : Own
  pub leads : Leads p t most locked own
  pub unlock : slice_get t.code own.place ≡ Some (Unlock (s.system.monitor h))
  pub words : own.held ≡ Some (record { monitor = s.system.monitor h; words = flat (s.system.effect h v message).states })
  pub lists : HoldLists (buffers_at own (s.buffers x h)) (s.system.effect h v message).lists
  pub after : After (on (record own { held = None }))

abbrev pub with_lock_of : ℕ → Value → Own → Own
with_lock_of m v own = on (record own { held = Some (record { monitor = m; words = flat v }) })

pub record Section (s : Setting) (p : Program) (t : Task) (x h : ℕ) (message : Value) (most : ℕ) (own : Own) (After : Value → Own → Type 0) : Type 0 where
  pub lock : slice_get t.code own.place ≡ Some (Lock (s.system.monitor h))
  pub free : own.held ≡ None
  pub body : (v : Value) → s.fits_monitor (s.system.monitor h) v ≡ true → Unlocking s p t x h message v most (with_lock_of (s.system.monitor h) v own) (After v)
