-- The shapes of places, step by step.
use Rattle.std.proofs.Common.{◌≡◌, ◌∙◌, ℕ, ◌+◌, ◌<◌, List, [], ◌∷◌, ◌++◌, length, map, take, drop, get_or, slice_get, Some, All, arith, refl, ap, sym, subst}
use Rattle.std.proofs.lemmas.Option.{get_or_from_slice_get, slice_get_within, slice_get-get_or}
use Rattle.std.proofs.lemmas.List.{take_more, take-append-drop}
use Rattle.tower_types.specs.declared.scalar.Scalar.{Scalar}
use Rattle.tower_types.specs.declared.ty.Ty.{Ty as TyValue}
use Rattle.tower_types.specs.declared.ty.Ty.TheVariants as types
use Rattle.tower_types.specs.Ty.{Name, Fields, NamesBelow, Shape, all, Shapes, shapes_of, shape_in, array, rec, table_of, shape_of_fields}
use Rattle.tower_types.specs.Records.{AreOrdered}
use Rattle.tower_types.proofs.Shapes.{shape_of-rec}
use Rattle.tower_types.specs.View.{ty_of, fields_of}
use Rattle.tower_types.proofs.Seen.{ty_of-Scalar, ty_of-Array, ty_of-Rec}
use Rattle.tower_syntax.specs.declared.body.PlaceStep.TheVariants as steps
use Rattle.tower_syntax.specs.declared.body.Expr.{Expr as ExprValue}
use Rattle.tower_syntax.specs.Arch.{Arch}
use Rattle.tower_syntax.specs.declared.body.Expr.TheOpen.{PlaceStep-F}
use Rattle.tower_syntax.specs.declared.body.Expr.TheFolds.{fold_out-PlaceStep, fold_out-Place}
use Rattle.tower_syntax.specs.declared.body.Place.{Place as PlaceValue}
use Rattle.tower_syntax.specs.declared.body.PlaceStep.{PlaceStep as StepValue}
use Rattle.tower_syntax.specs.Tree.{Expr, Place, Steps, no_steps, field, at}
use Rattle.tower_syntax.specs.View.{Step, steps_of, place_of, expr_step, step_step, place_step}
use Rattle.tower_syntax.specs.Weights.{Scope, root_shape, place_shape, no_shape, shape_at, field_shape, field_shapes, element_shape, steps_shape}
use Rattle.tower_syntax.specs.WellNumbered.{IsNumberedType, AreNumberedFields}
use Rattle.channel_graph.specs.Stepped.{step_of}
use Rattle.channel_graph.specs.Scoped.{shape_by, part_shape}
use Rattle.channel_graph.proofs.Weighed.{onto, onto-none, onto-push, step_of-Field, step_of-At}
use Rattle.channel_graph.proofs.Looked.{field_of}

abbrev IsOneStep : Step → Type 0
IsOneStep step = (s : Shape) (rest : Steps) → steps_shape s (step rest) ≡ steps_shape (steps_shape s (step no_steps)) rest

layer_is_one : (l : PlaceStep-F Expr Step Place) → IsOneStep (step_step l)
layer_is_one (PlaceStep-F.Field k) s rest = refl
layer_is_one (PlaceStep-F.At e) s rest = refl

-- a step, and then the rest
pub part_first : (y : StepValue) → IsOneStep (step_of y)
part_first y = subst IsOneStep (sym (fold_out-PlaceStep Expr Step Place expr_step step_step place_step y)) (layer_is_one _)

-- no shape has parts
pub none_has : (rest : Steps) → steps_shape no_shape rest ≡ no_shape
none_has no_steps = refl
none_has (field k rest) = none_has rest
none_has (at e rest) = none_has rest

-- these steps lead from one shape to another
pub record Comes (from : Shape) (xs : List StepValue) (to : Shape) : Type 0 where
  pub onto : (rest : Steps) → steps_shape from (onto (map step_of xs) rest) ≡ steps_shape to rest

pub comes_none : (from : Shape) → Comes from [] from
comes_none from = record { onto = λ rest. refl }

pub comes_more : (from to : Shape) (xs : List StepValue) (i : ℕ) (y : StepValue) → i < length xs → y ≡ get_or xs i y → Comes from (take i xs) to → Comes from (take (i + 1) xs) (part_shape y to)
comes_more from to xs i y within read before = record {
  onto = λ rest.
      ap (λ ys. steps_shape from (onto (map step_of ys) rest)) (take_more xs i y within ∙ ap (λ z. take i xs ++ z ∷ []) (sym read))
      ∙ ap (steps_shape from) (onto-push (take i xs) y rest) ∙ before.onto (step_of y rest) ∙ part_first y to rest;
}

onto-append : (xs ys : List StepValue) (rest : Steps) → onto (map step_of (xs ++ ys)) rest ≡ onto (map step_of xs) (onto (map step_of ys) rest)
onto-append [] ys rest = refl
onto-append (x ∷ xs) ys rest = ap (step_of x) (onto-append xs ys rest)

-- all of the steps
pub comes_all : (from to : Shape) (xs : List StepValue) → Comes from xs to → steps_shape from (steps_of (map step_of xs)) ≡ to
comes_all from to xs h = ap (steps_shape from) (onto-none (map step_of xs)) ∙ h.onto no_steps

-- where the first steps lead to no shape, all do
pub comes_to_none : (from : Shape) (xs : List StepValue) (i : ℕ) → Comes from (take i xs) no_shape → steps_shape from (steps_of (map step_of xs)) ≡ no_shape
comes_to_none from xs i h =
    ap (λ ys. steps_shape from (steps_of (map step_of ys))) (sym (take-append-drop i xs))
    ∙ ap (steps_shape from) (onto-none (map step_of (take i xs ++ drop i xs)) ∙ onto-append (take i xs) (drop i xs) no_steps)
    ∙ h.onto (onto (map step_of (drop i xs)) no_steps) ∙ none_has (onto (map step_of (drop i xs)) no_steps)

-- a field of a record that is looked up
pub part_field : (arch : Arch) (step : StepValue) (ty : TyValue) (k r : ℕ) (fields : List (Name × TyValue)) → step ≡ steps.Field k → ty ≡ types.Rec r → shape_by arch (rec r) ≡ shape_of_fields (table_of arch.records) (fields_of fields) → part_shape step (shape_by arch (ty_of ty)) ≡ shape_at (field_shapes (table_of arch.records) (fields_of fields)) k
part_field arch step ty k r fields is_field is_rec shape =
    ap (λ y. part_shape y (shape_by arch (ty_of ty))) is_field
    ∙ ap (λ (s : Step). steps_shape (shape_by arch (ty_of ty)) (s no_steps)) (step_of-Field k)
    ∙ ap (field_shape k) (ap (λ t. shape_by arch (ty_of t)) is_rec ∙ ap (shape_by arch) (ty_of-Rec r) ∙ shape)
    ∙ field_of (table_of arch.records) (fields_of fields) k

-- a field of anything else
pub part_field_scalar : (arch : Arch) (step : StepValue) (ty : TyValue) (k : ℕ) (t : Scalar) → step ≡ steps.Field k → ty ≡ types.Scalar t → part_shape step (shape_by arch (ty_of ty)) ≡ no_shape
part_field_scalar arch step ty k t is_field is_scalar =
    ap (λ y. part_shape y (shape_by arch (ty_of ty))) is_field
    ∙ ap (λ (s : Step). steps_shape (shape_by arch (ty_of ty)) (s no_steps)) (step_of-Field k)
    ∙ ap (λ u. field_shape k (shape_by arch u)) (ap ty_of is_scalar ∙ ty_of-Scalar t)

pub part_field_array : (arch : Arch) (step : StepValue) (ty : TyValue) (k n : ℕ) (t : TyValue) → step ≡ steps.Field k → ty ≡ types.Array n t → part_shape step (shape_by arch (ty_of ty)) ≡ no_shape
part_field_array arch step ty k n t is_field is_array =
    ap (λ y. part_shape y (shape_by arch (ty_of ty))) is_field
    ∙ ap (λ (s : Step). steps_shape (shape_by arch (ty_of ty)) (s no_steps)) (step_of-Field k)
    ∙ ap (λ u. field_shape k (shape_by arch u)) (ap ty_of is_array ∙ ty_of-Array n t)

-- an element of an array
pub part_element : (arch : Arch) (step : StepValue) (ty : TyValue) (e : ExprValue) (n : ℕ) (t : TyValue) → step ≡ steps.At e → ty ≡ types.Array n t → part_shape step (shape_by arch (ty_of ty)) ≡ shape_by arch (ty_of t)
part_element arch step ty e n t is_at is_array =
    ap (λ y. part_shape y (shape_by arch (ty_of ty))) is_at
    ∙ ap (λ (s : Step). steps_shape (shape_by arch (ty_of ty)) (s no_steps)) (step_of-At e)
    ∙ ap (λ u. element_shape (shape_by arch u)) (ap ty_of is_array ∙ ty_of-Array n t)

-- an element of anything else: a record has the shape of fields
pub part_element_scalar : (arch : Arch) (step : StepValue) (ty : TyValue) (e : ExprValue) (t : Scalar) → step ≡ steps.At e → ty ≡ types.Scalar t → part_shape step (shape_by arch (ty_of ty)) ≡ no_shape
part_element_scalar arch step ty e t is_at is_scalar =
    ap (λ y. part_shape y (shape_by arch (ty_of ty))) is_at
    ∙ ap (λ (s : Step). steps_shape (shape_by arch (ty_of ty)) (s no_steps)) (step_of-At e)
    ∙ ap (λ u. element_shape (shape_by arch u)) (ap ty_of is_scalar ∙ ty_of-Scalar t)

pub part_element_record : (arch : Arch) (step : StepValue) (ty : TyValue) (e : ExprValue) (r : ℕ) (ss : Shapes) → step ≡ steps.At e → ty ≡ types.Rec r → shape_by arch (rec r) ≡ all ss → part_shape step (shape_by arch (ty_of ty)) ≡ no_shape
part_element_record arch step ty e r ss is_at is_rec shape =
    ap (λ y. part_shape y (shape_by arch (ty_of ty))) is_at
    ∙ ap (λ (s : Step). steps_shape (shape_by arch (ty_of ty)) (s no_steps)) (step_of-At e)
    ∙ ap element_shape (ap (λ t. shape_by arch (ty_of t)) is_rec ∙ ap (shape_by arch) (ty_of-Rec r) ∙ shape)

-- a record that exists has the shape of its fields
pub record_is_all : (arch : Arch) (ty : TyValue) (r : ℕ) → AreOrdered arch.records → NamesBelow (length arch.records) (ty_of ty) → ty ≡ types.Rec r → (ss : Shapes) × (shape_by arch (rec r) ≡ all ss)
record_is_all arch ty r ordered below is_rec =
    let inside : r < length arch.records = subst (NamesBelow (length arch.records)) (ap ty_of is_rec ∙ ty_of-Rec r) below in
    let fields = get_or arch.records r [] in
    (shapes_of (map (λ f. shape_in (table_of arch.records) f.1) fields), shape_of-rec arch.records r fields ordered (slice_get-get_or arch.records r [] inside))

-- a type of an array's elements
pub element_numbered : (n : ℕ) (ty : TyValue) (len : ℕ) (t : TyValue) → IsNumberedType n (ty_of ty) → ty ≡ types.Array len t → IsNumberedType n (ty_of t)
element_numbered n ty len t numbered is_array =
    let whole : IsNumberedType n (array len (ty_of t)) = subst (IsNumberedType n) (ap ty_of is_array ∙ ty_of-Array len t) numbered in
    (whole.0, omega (arith, whole.1))

-- the fields of a record that exists
pub fields_numbered : (arch : Arch) (r : ℕ) (fields : Fields) → All (AreNumberedFields (length arch.records)) arch.records → slice_get arch.records r ≡ Some fields → AreNumberedFields (length arch.records) fields
fields_numbered arch r fields each found =
    subst (AreNumberedFields (length arch.records)) (get_or_from_slice_get arch.records r fields [] found) (each r [] (slice_get_within arch.records r fields found))

-- the shape of a place, by its steps
pub place_shape-steps : (scope : Scope) (p : PlaceValue) → place_shape scope (place_of p) ≡ steps_shape (root_shape scope p.root) (steps_of (map step_of p.steps))
place_shape-steps scope p = ap (place_shape scope) (fold_out-Place Expr Step Place expr_step step_step place_step p)
