use Rattle.std.proofs.Common.{◌≡◌, ◌<◌, ℕ, Option, Some, slice_get}
use Rattle.tower_syntax.specs.declared.arch.SourceKind.{SourceKind}
use Rattle.task_code.specs.declared.program.Task.{Task}
use Rattle.task_code.specs.Fits.{FitsKind}
use Rattle.task_code.proofs.fitting.sources_fit.Given as goal

abbrev pub invariant-loop-i : goal.invariant-loop-i
invariant-loop-i l = (x : ℕ) → x < l.i → (k : SourceKind) (t : Task) (d : Option ℕ) → slice_get l.kinds x ≡ Some k → slice_get l.tasks x ≡ Some t → slice_get l.depths x ≡ Some d → FitsKind k t d
