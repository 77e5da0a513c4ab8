use Rattle.std.proofs.Common.{◌≡◌, ◌++◌, drop}
use Rattle.task_build.specs.CodeOf.{frames_from}
use Rattle.task_build.proofs.tables.frames.Given as goal

abbrev pub invariant-loop-h : goal.invariant-loop-h
invariant-loop-h l = l.frames ++ frames_from l.arch l.base l.buffer (drop l.h-index l.handlers) ≡ frames_from l.arch 0 0 l.handlers
