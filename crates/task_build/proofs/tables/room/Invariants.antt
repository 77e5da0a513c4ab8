use Rattle.std.proofs.Common.{◌≡◌, take}
use Rattle.task_build.specs.CodeOf.{end_of}
use Rattle.task_build.proofs.tables.room.Given as goal

abbrev pub invariant-loop-frame : goal.invariant-loop-frame
invariant-loop-frame l = l.end ≡ end_of l.width (take l.frame-index l.frames)
