use Rattle.task_build.proofs.Pushed.{buffers_more}
use Rattle.task_build.proofs.sizes.all_buffers.Goals as goal
use Rattle.std.proofs.Common.{get_or, refl}

pub loop-h-preserved : goal.loop-h-preserved
loop-h-preserved c =
    buffers_more c.args.arch.now c.args.handlers.now c.loop-h.h-index (get_or c.args.handlers.now c.loop-h.h-index 0) c.loop-h.buffers c.add_buffers.new.buffers c.loop-h-test.true refl c.loop-h.invariant c.in_ok-add_buffers.ensures
