use Rattle.std.proofs.Common.{◌≡◌, ◌+◌, ◌||◌, drop, map}
use Rattle.tower_syntax.specs.View.{steps_of}
use Rattle.tower_syntax.specs.Weights.{root_shape}
use Rattle.channel_graph.specs.Stepped.{step_of}
use Rattle.stmt_code.specs.Layout.{fixed_offset, moves}
use Rattle.stmt_code.proofs.place.locate.Given as goal

-- what was found, with what is still to come, is the whole
abbrev pub invariant-loop-step : goal.invariant-loop-step
invariant-loop-step l =
    (l.offset + fixed_offset l.part (steps_of (map step_of (drop l.step-index l.step-items))) ≡ fixed_offset (root_shape l.layout.scope l.p.root) (steps_of (map step_of l.step-items)))
    × ((moves (steps_of (map step_of (drop l.step-index l.step-items))) || l.moving) ≡ moves (steps_of (map step_of l.step-items)))
