-- The steps of a place, one by one.
use Rattle.std.specs.Prelude.{ℕ, List, map}
use Rattle.tower_syntax.specs.Tree.{Expr, Place, no_steps}
use Rattle.tower_syntax.specs.View.{Step, steps_of, expr_step, step_step, place_step}
use Rattle.tower_syntax.specs.Weights.{steps_weight}
use Rattle.tower_syntax.specs.declared.body.PlaceStep.{PlaceStep as StepValue}
use Rattle.tower_syntax.specs.declared.body.Expr.TheFolds.{fold-PlaceStep}

abbrev pub step_of : StepValue → Step
step_of = fold-PlaceStep Expr Step Place expr_step step_step place_step

-- what a step alone weighs
abbrev pub step_weight : StepValue → ℕ
step_weight s = steps_weight (step_of s no_steps)

-- what some steps weigh
abbrev pub all_steps_weight : List StepValue → ℕ
all_steps_weight ss = steps_weight (steps_of (map step_of ss))
