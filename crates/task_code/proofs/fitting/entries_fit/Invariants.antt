use Rattle.std.proofs.Common.{map, take}
use Rattle.std.specs.Prelude.{All}
use Rattle.tower_syntax.specs.View.{entry_of}
use Rattle.task_code.specs.Fits.{FitsEntry}
use Rattle.task_code.proofs.fitting.entries_fit.Given as goal

abbrev pub invariant-loop-entry : goal.invariant-loop-entry
invariant-loop-entry l = All (FitsEntry l.kinds l.tasks) (map entry_of (take l.entry-index l.entries))
