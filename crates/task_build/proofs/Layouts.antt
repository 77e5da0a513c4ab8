-- Where the parts of a callback lie: in the private words, in its monitor, and among the buffers.
use Rattle.std.specs.Prelude.{ℕ, ◌+◌, ◌<◌, ◌≤◌, length, slice_index}
use Rattle.tower_types.specs.Ty.{words}
use Rattle.tower_syntax.specs.Weights.{shape_at}
use Rattle.task_code.specs.declared.program.Task.{Task}
use Rattle.task_code.specs.Program.{Program}
use Rattle.arch_checks.specs.Wide.{IsWide}
use Rattle.stmt_code.specs.Layout.{Layout, binder_at, scratch_at, words_before}

-- the names of a callback lie in the private words, its states in its monitor, and its buffers are there
pub record IsLaid (p : Program) (t : Task) (w : Layout) : Type 0 where
  pub wide_message : IsWide w.scope.message
  pub wide_binders : (b : ℕ) → b < length w.scope.binders → IsWide (shape_at w.scope.binders b)
  pub wide_states : (k : ℕ) → k < length w.scope.states → IsWide (shape_at w.scope.states k)
  pub wide_emitters : (k : ℕ) → k < length w.scope.emitters → IsWide (shape_at w.scope.emitters k)
  pub message_room : w.param + words w.scope.message ≤ t.room
  pub binder_room : (b : ℕ) → b < length w.scope.binders → binder_at w b + words (shape_at w.scope.binders b) ≤ t.room
  pub temps_room : w.temps + 3 ≤ t.room
  pub has_monitor : w.monitor < length p.monitors
  pub state_room : (k : ℕ) → k < length w.scope.states → words_before w.scope.states k + words (shape_at w.scope.states k) ≤ slice_index p.monitors w.monitor
  pub scratch_room : (k : ℕ) → k < length w.scope.emitters → scratch_at w k + words (shape_at w.scope.emitters k) ≤ t.room
  pub has_buffer : (k : ℕ) → k < length w.scope.emitters → w.first_buffer + k < length t.buffers
