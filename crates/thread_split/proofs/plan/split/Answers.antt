use Rattle.thread_split.proofs.Planned.{plans_more}
use Rattle.thread_split.proofs.plan.split.Goals as goal

pub loop-s-preserved : goal.loop-s-preserved
loop-s-preserved c =
    plans_more c.arch-arch.result.now c.loop-s.s c.loop-s.plans.items c.push.new.self.items c.in_ok-plan.plan c.loop-s.invariant c.in_ok-push.ensures.items c.in_ok-plan.ensures
