-- The words before a field or an element.
use Rattle.std.proofs.Common.{◌≡◌, ◌∙◌, ℕ, zero, suc, ◌+◌, ◌<◌, ◌||◌, Bool, true, false, Option, Some, None, List, [], ◌∷◌, length, map, drop, get_or, add-one, arith, refl, ap, sym, subst}
use Rattle.tower_types.specs.Ty.{Shape, one, many, all, Shapes, no_shapes, shape, words}
use Rattle.tower_syntax.specs.Tree.{Expr, Place, Steps, no_steps, field, at}
use Rattle.tower_syntax.specs.View.{Step, expr_of, expr_step, step_step, place_step}
use Rattle.tower_syntax.specs.Weights.{shape_at, nth_shape, field_shape, element_shape, steps_shape}
use Rattle.tower_syntax.specs.declared.body.Expr.{Expr as ExprValue}
use Rattle.tower_syntax.specs.declared.body.PlaceStep.{PlaceStep as StepValue}
use Rattle.tower_syntax.specs.declared.body.PlaceStep.TheVariants as step
use Rattle.tower_syntax.specs.declared.body.Expr.TheOpen.{PlaceStep-F}
use Rattle.tower_syntax.specs.declared.body.Expr.TheFolds.{fold_out-PlaceStep}
use Rattle.channel_graph.specs.Stepped.{step_of}
use Rattle.channel_graph.specs.Scoped.{part_shape}
use Rattle.channel_graph.proofs.Weighed.{step_of-Field, step_of-At}
use Rattle.stmt_code.specs.Layout.{words_before, fields_before, field_offset, fixed_offset, given_index, given_offset, is_moving, moves}
use Rattle.stmt_code.specs.Seen.{step_moves}

-- a field's part of an offset
pub offset-field : (s : Shape) (y : StepValue) (k n : ℕ) (rest : Steps) → y ≡ step.Field k → n ≡ field_offset k s → fixed_offset s (step_of y rest) ≡ n + fixed_offset (part_shape y s) rest
offset-field s y k n rest is here =
    let P : Step → Type 0 = λ st. fixed_offset s (st rest) ≡ n + fixed_offset (steps_shape s (st no_steps)) rest in
    subst P (sym (ap step_of is ∙ step_of-Field k)) (ap (λ m. m + fixed_offset (field_shape k s) rest) (sym here))

-- an element's part of an offset
pub offset-element : (s : Shape) (y : StepValue) (e : ExprValue) (width n : ℕ) (rest : Steps) → y ≡ step.At e → width ≡ words (part_shape y s) → n ≡ given_offset (given_index (expr_of e)) width → fixed_offset s (step_of y rest) ≡ n + fixed_offset (part_shape y s) rest
offset-element s y e width n rest is wide here =
    let place = ap step_of is ∙ step_of-At e in
    let width_is : width ≡ words (element_shape s) = wide ∙ ap (λ (st : Step). words (steps_shape s (st no_steps))) place in
    let P : Step → Type 0 = λ st. fixed_offset s (st rest) ≡ n + fixed_offset (steps_shape s (st no_steps)) rest in
    subst P (sym place) (ap (λ m. m + fixed_offset (element_shape s) rest) (sym (here ∙ ap (given_offset (given_index (expr_of e))) width_is)))

or_turned : (a b c : Bool) → ((a || b) || c) ≡ (b || ((a || false) || c))
or_turned true true c = refl
or_turned true false c = refl
or_turned false true c = refl
or_turned false false c = refl

-- does an index move: in the rest, or in what stands before it
abbrev IsCarried : Step → Type 0
IsCarried st = (rest : Steps) (before : Bool) → (moves (st rest) || before) ≡ (moves rest || (moves (st no_steps) || before))

layer_carried : (l : PlaceStep-F Expr Step Place) → IsCarried (step_step l)
layer_carried (PlaceStep-F.Field k) rest before = refl
layer_carried (PlaceStep-F.At e) rest before = or_turned (is_moving (given_index e)) (moves rest) before

pub moves-carried : (y : StepValue) (rest : Steps) (before : Bool) → (moves (step_of y rest) || before) ≡ (moves rest || (step_moves y || before))
moves-carried y = subst IsCarried (sym (fold_out-PlaceStep Expr Step Place expr_step step_step place_step y)) (layer_carried _)
