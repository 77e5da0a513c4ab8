use Rattle.std.proofs.Common.{length}
use Rattle.task_build.specs.CodeOf.{frames_from}
use Rattle.task_build.proofs.Tabled.{Tabled}
use Rattle.task_build.proofs.tables.table.Given as goal

abbrev pub invariant-loop-frame : goal.invariant-loop-frame
invariant-loop-frame l = Tabled (length l.arch.handlers) l.handlers (frames_from l.arch 0 0 l.handlers) l.places l.made l.table

abbrev pub decreases-loop-frame : goal.decreases-loop-frame
decreases-loop-frame l = length l.made
