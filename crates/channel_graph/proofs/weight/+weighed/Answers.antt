use Rattle.std.proofs.Common.{◌≡◌, subst}
use Rattle.tower_types.specs.Records.{saturated}
use Rattle.channel_graph.specs.Stepped.{step_weight}
use Rattle.channel_graph.proofs.Saturating.{saturating_step}
use Rattle.channel_graph.proofs.Weighed.{all_steps-more, splits-more, SplitsOff}
use Rattle.channel_graph.proofs.weight.+weighed.Goals as goal

pub steps_weight-loop-step-preserved : goal.steps_weight-loop-step-preserved
steps_weight-loop-step-preserved t c =
    let steps = c.args.steps.now in
    let i = c.loop-step.step-index in
    let item = c.step-item.result in
    let more = all_steps-more steps i item c.loop-step-test.true c.loop-step.invariant.1 in
    let here = subst (λ y. c.step_weight.result ≡ saturated (step_weight y)) c.step-item.is c.step_weight.ensures.weight in (
      saturating_step c.loop-step.total c.step_weight.result c.saturating_add-total.result _ _ _ c.loop-step.invariant.0 here c.saturating_add-total.ensures more,
      splits-more steps i item c.loop-step-test.true c.loop-step.invariant.1 (subst SplitsOff c.step-item.is c.step_weight.ensures.splits),
    )
