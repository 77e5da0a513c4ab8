use Rattle.std.proofs.Common.{true, refl, set}
use Rattle.tower_syntax.specs.View.{handler_of}
use Rattle.thread_split.proofs.Planned.{worked_more}
use Rattle.thread_split.proofs.plan.worked_on.Goals as goal

pub loop-h-preserved : goal.loop-h-preserved
loop-h-preserved c =
    let v = handler_of c.handler.result.now in
    worked_more c.args.arch.now c.args.handlers.now c.loop-h.h-index 0 c.loop-h.marks.items (set c.loop-h.marks.items v.monitor true) v c.loop-h-test.true c.loop-h.invariant c.handler.ensures.value c.handler.ensures.numbered.monitor refl
