use Rattle.std.proofs.Common.{◌≡◌, take}
use Rattle.tower_types.specs.Records.{saturated}
use Rattle.channel_graph.specs.Stepped.{all_steps_weight}
use Rattle.channel_graph.proofs.Weighed.{Splits}
use Rattle.channel_graph.proofs.weight.+weighed.Given as goal

abbrev pub invariant-steps_weight-loop-step : goal.invariant-steps_weight-loop-step
invariant-steps_weight-loop-step l =
    (l.total ≡ saturated (all_steps_weight (take l.step-index l.steps)))
    × Splits (take l.step-index l.steps)
