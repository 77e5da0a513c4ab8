use Rattle.std.proofs.Common.{◌≤◌, sym, subst, refl, arith}
use Rattle.tower_types.specs.Value.{value_depth}
use Rattle.tower_types.specs.View.{value_of}
use Rattle.task_code.proofs.Fitted.{depth_more, part_depth, denies}
use Rattle.task_code.proofs.fitting.+depth.Goals as goal

pub are_at_most_deep-returns-then-not-is_at_most_deep : goal.are_at_most_deep-returns-then-not-is_at_most_deep
are_at_most_deep-returns-then-not-is_at_most_deep t c =
    denies (λ h. c.if-not-is_at_most_deep.ensures.1 (subst (λ v. value_depth (value_of v) ≤ c.args.most) (sym c.v-item.is) (omega (arith, h, part_depth c.args.vs.now c.loop-v.v-index c.v-item.result c.loop-v-test.true))))

pub are_at_most_deep-loop-v-preserved : goal.are_at_most_deep-loop-v-preserved
are_at_most_deep-loop-v-preserved t c =
    let more = depth_more c.args.vs.now c.loop-v.v-index c.v-item.result c.loop-v-test.true in
    let here = subst (λ v. value_depth (value_of v) ≤ c.args.most) c.v-item.is (c.if-not-is_at_most_deep.ensures.0 refl) in
    omega (arith, more, here, c.loop-v.invariant)
