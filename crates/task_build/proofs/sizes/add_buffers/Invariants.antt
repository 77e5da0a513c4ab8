use Rattle.std.proofs.Common.{◌≡◌, ◌++◌, take}
use Rattle.tower_syntax.specs.Graph.{handler}
use Rattle.task_build.specs.CodeOf.{buffers_of}
use Rattle.task_build.proofs.sizes.add_buffers.Given as goal

abbrev pub invariant-loop-emitter : goal.invariant-loop-emitter
invariant-loop-emitter l = l.buffers ≡ l.initial.buffers ++ buffers_of l.arch (take l.emitter-index (handler l.arch l.h).emitters)
