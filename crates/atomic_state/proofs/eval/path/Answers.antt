use Rattle.tower_syntax.specs.View.{place_of}
use Rattle.atomic_state.specs.FrameView.{env_of}
use Rattle.atomic_state.proofs.Paths.{one_more}
use Rattle.atomic_state.proofs.eval.path.Goals as goal

pub loop-step-preserved : goal.loop-step-preserved
loop-step-preserved c =
    one_more (env_of c.args.frame.now) (place_of c.args.p.now) c.as_slice-step-items.result.now c.loop-step.step-index c.step-item.result c.index-k.result c.loop-step.path.items c.push.new.self.items
    c.loop-step-test.true c.step-item.is c.index-k.ensures c.in_ok-push.ensures.items c.loop-step.invariant
