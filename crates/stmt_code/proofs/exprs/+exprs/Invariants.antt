use Rattle.std.proofs.Common.{◌≡◌, ◌++◌, false, length, drop, map}
use Rattle.tower_syntax.specs.View.{steps_of}
use Rattle.tower_syntax.specs.Weights.{root_shape}
use Rattle.channel_graph.specs.Stepped.{step_of}
use Rattle.task_code.specs.Grows.{Keeps}
use Rattle.task_code.specs.Piece.{listed}
use Rattle.stmt_code.specs.Body.{steps_code}
use Rattle.stmt_code.proofs.exprs.+exprs.Given as goal

-- what stands, with what is still to come, is the whole
abbrev pub invariant-add_index-loop-step : goal.invariant-add_index-loop-step
invariant-add_index-loop-step l =
    (l.code ++ listed (steps_code l.layout (length l.code) l.begun l.part (steps_of (map step_of (drop l.step-index l.step-items))))
    ≡ l.initial.code ++ listed (steps_code l.layout (length l.initial.code) false (root_shape l.layout.scope l.p.root) (steps_of (map step_of l.step-items))))
    × Keeps l.initial.code l.code
