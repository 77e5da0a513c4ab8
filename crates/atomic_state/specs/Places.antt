-- The steps of a place, and expressions that are no place.
use Rattle.tower_syntax.specs.Tree.{Expr, lit, read, un, bin, choose, cast, Place, place, Steps}
use Rattle.tower_syntax.specs.View.{Step, expr_step, step_step, place_step}
use Rattle.tower_syntax.specs.declared.body.PlaceStep.{PlaceStep as StepValue}
use Rattle.tower_syntax.specs.declared.body.Expr.TheFolds.{fold-PlaceStep}

abbrev pub step_of : StepValue → Step
step_of = fold-PlaceStep Expr Step Place expr_step step_step place_step

abbrev pub steps_in : Place → Steps
steps_in (place r steps) = steps

abbrev pub IsNoRead : Expr → Type 0
IsNoRead (lit t n) = Unit {0}
IsNoRead (read p) = ⊥
IsNoRead (un op t a) = Unit {0}
IsNoRead (bin op t a b) = Unit {0}
IsNoRead (choose c a b) = Unit {0}
IsNoRead (cast t a) = Unit {0}
