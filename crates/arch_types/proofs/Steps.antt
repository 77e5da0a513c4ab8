-- What a place of the checked tree stands for.
use Rattle.std.proofs.Common.{◌≡◌, ◌∙◌, ap, sym, refl, ℕ, List, [], ◌∷◌, ◌++◌}
use Rattle.tower_syntax.specs.Tree.{Expr, Place, field, at}
use Rattle.tower_syntax.specs.View.{Step, expr_of, expr_step, step_step, place_step}
use Rattle.tower_syntax.specs.declared.body.Expr.{Expr as ExprValue}
use Rattle.tower_syntax.specs.declared.body.PlaceStep.{PlaceStep as StepValue}
use Rattle.tower_syntax.specs.declared.body.PlaceStep.TheVariants as step
use Rattle.tower_syntax.specs.declared.body.Expr.TheOpen.{PlaceStep-F}
use Rattle.tower_syntax.specs.declared.body.Expr.TheFolds.{fold-roll-PlaceStep}
use Rattle.arch_types.specs.Seen.{step_of, steps_in}

pub step_of-Field : (k : ℕ) → step_of (step.Field k) ≡ field k
step_of-Field k = ap step_of (sym (step.rolls-Field k)) ∙ fold-roll-PlaceStep Expr Step Place expr_step step_step place_step (PlaceStep-F.Field k)

pub step_of-At : (e : ExprValue) → step_of (step.At e) ≡ at (expr_of e)
step_of-At e = ap step_of (sym (step.rolls-At e)) ∙ fold-roll-PlaceStep Expr Step Place expr_step step_step place_step (PlaceStep-F.At e)

pub steps_in-push : (ss : List StepValue) (s : StepValue) → steps_in (ss ++ s ∷ []) ≡ steps_in ss ++ step_of s ∷ []
steps_in-push [] s = refl
steps_in-push (x ∷ ss) s = ap (λ l. step_of x ∷ l) (steps_in-push ss s)
