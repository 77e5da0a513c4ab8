-- What the steps of a place weigh.
use Rattle.std.proofs.Common.{◌≡◌, ◌∙◌, ap, sym, subst, refl, ℕ, ◌+◌, ◌<◌, List, [], ◌∷◌, ◌++◌, length, map, take, get_or, arith}
use Rattle.std.proofs.lemmas.List.{take_more}
use Rattle.tower_syntax.specs.Tree.{Expr, Place, Steps, no_steps, field, at}
use Rattle.tower_syntax.specs.View.{Step, steps_of, expr_of, expr_step, step_step, place_step}
use Rattle.tower_syntax.specs.Weights.{steps_weight, expr_weight}
use Rattle.tower_syntax.specs.declared.body.Expr.{Expr as ExprValue}
use Rattle.tower_syntax.specs.declared.body.PlaceStep.{PlaceStep as StepValue}
use Rattle.tower_syntax.specs.declared.body.PlaceStep.TheVariants as step
use Rattle.tower_syntax.specs.declared.body.Expr.TheOpen.{PlaceStep-F}
use Rattle.tower_syntax.specs.declared.body.Expr.TheFolds.{fold-roll-PlaceStep}
use Rattle.channel_graph.specs.Stepped.{step_of, step_weight, all_steps_weight}

pub step_of-Field : (k : ℕ) → step_of (step.Field k) ≡ field k
step_of-Field k = ap step_of (sym (step.rolls-Field k)) ∙ fold-roll-PlaceStep Expr Step Place expr_step step_step place_step (PlaceStep-F.Field k)

pub step_of-At : (e : ExprValue) → step_of (step.At e) ≡ at (expr_of e)
step_of-At e = ap step_of (sym (step.rolls-At e)) ∙ fold-roll-PlaceStep Expr Step Place expr_step step_step place_step (PlaceStep-F.At e)

pub step_weight-Field : (k : ℕ) → step_weight (step.Field k) ≡ 4
step_weight-Field k = ap (λ (s : Step). steps_weight (s no_steps)) (step_of-Field k)

pub step_weight-At : (e : ExprValue) → step_weight (step.At e) ≡ expr_weight (expr_of e) + 8
step_weight-At e = ap (λ (s : Step). steps_weight (s no_steps)) (step_of-At e) ∙ omega arith

-- some steps before the rest of a place
abbrev pub onto : List Step → Steps → Steps
onto [] rest = rest
onto (s ∷ ss) rest = s (onto ss rest)

pub onto-none : (ss : List Step) → steps_of ss ≡ onto ss no_steps
onto-none [] = refl
onto-none (s ∷ ss) = ap s (onto-none ss)

pub onto-push : (xs : List StepValue) (y : StepValue) (rest : Steps) → onto (map step_of (xs ++ y ∷ [])) rest ≡ onto (map step_of xs) (step_of y rest)
onto-push [] y rest = refl
onto-push (x ∷ xs) y rest = ap (step_of x) (onto-push xs y rest)

-- the weight is that of the first steps and that of the rest
abbrev pub Splits : List StepValue → Type 0
Splits xs = (rest : Steps) → steps_weight (onto (map step_of xs) rest) ≡ all_steps_weight xs + steps_weight rest

abbrev pub SplitsOff : StepValue → Type 0
SplitsOff y = (rest : Steps) → steps_weight (step_of y rest) ≡ step_weight y + steps_weight rest

all_steps-push : (xs : List StepValue) (y : StepValue) → Splits xs → all_steps_weight (xs ++ y ∷ []) ≡ all_steps_weight xs + step_weight y
all_steps-push xs y before =
    ap steps_weight (onto-none (map step_of (xs ++ y ∷ []))) ∙ ap steps_weight (onto-push xs y no_steps) ∙ before (step_of y no_steps)

splits-push : (xs : List StepValue) (y : StepValue) → Splits xs → SplitsOff y → Splits (xs ++ y ∷ [])
splits-push xs y before here rest =
    omega (arith, ap steps_weight (onto-push xs y rest), before (step_of y rest), here rest, all_steps-push xs y before)

pub all_steps-more : (xs : List StepValue) (i : ℕ) (d : StepValue) → i < length xs → Splits (take i xs) → all_steps_weight (take (i + 1) xs) ≡ all_steps_weight (take i xs) + step_weight (get_or xs i d)
all_steps-more xs i d h before = ap all_steps_weight (take_more xs i d h) ∙ all_steps-push (take i xs) (get_or xs i d) before

pub splits-more : (xs : List StepValue) (i : ℕ) (d : StepValue) → i < length xs → Splits (take i xs) → SplitsOff (get_or xs i d) → Splits (take (i + 1) xs)
splits-more xs i d h before here = subst Splits (sym (take_more xs i d h)) (splits-push (take i xs) (get_or xs i d) before here)

pub splits-Field : (k : ℕ) → SplitsOff (step.Field k)
splits-Field k rest = omega (arith, ap (λ (s : Step). steps_weight (s rest)) (step_of-Field k), step_weight-Field k)

pub splits-At : (e : ExprValue) → SplitsOff (step.At e)
splits-At e rest = omega (arith, ap (λ (s : Step). steps_weight (s rest)) (step_of-At e), step_weight-At e)
