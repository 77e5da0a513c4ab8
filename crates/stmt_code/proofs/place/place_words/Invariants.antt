use Rattle.std.proofs.Common.{◌≡◌, drop, map}
use Rattle.tower_syntax.specs.View.{steps_of}
use Rattle.tower_syntax.specs.Weights.{root_shape, steps_shape}
use Rattle.channel_graph.specs.Stepped.{step_of}
use Rattle.stmt_code.proofs.place.place_words.Given as goal

abbrev pub invariant-loop-step : goal.invariant-loop-step
invariant-loop-step l = steps_shape l.part (steps_of (map step_of (drop l.step-index l.step-items))) ≡ steps_shape (root_shape l.layout.scope l.p.root) (steps_of (map step_of l.step-items))
