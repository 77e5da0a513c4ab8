use Rattle.std.proofs.Common.{◌≡◌, take}
use Rattle.task_build.specs.CodeOf.{all_buffers}
use Rattle.task_build.proofs.sizes.all_buffers.Given as goal

abbrev pub invariant-loop-h : goal.invariant-loop-h
invariant-loop-h l = l.buffers ≡ all_buffers l.arch (take l.h-index l.handlers)
