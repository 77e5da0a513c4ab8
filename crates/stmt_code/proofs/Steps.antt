-- The steps of a place, one by one.
use Rattle.std.proofs.Common.{◌≡◌, ◌∙◌, ℕ, suc, ◌+◌, ◌<◌, ◌||◌, Bool, true, false, Option, Some, None, List, [], ◌∷◌, ◌++◌, length, map, drop, get_or, add-one, arith, refl, ap, sym, subst}
use Rattle.std.proofs.Math.Seq.{drop-cons, drop-length}
use Rattle.std.proofs.lemmas.List.{append-nil}
use Rattle.tower_types.specs.Ty.{Shape, words}
use Rattle.tower_syntax.specs.Tree.{Expr, Place, Steps, no_steps, field, at}
use Rattle.tower_syntax.specs.View.{Step, steps_of, place_of, expr_of, expr_step, step_step, place_step}
use Rattle.tower_syntax.specs.Weights.{root_shape, steps_shape, field_shape, element_shape}
use Rattle.tower_syntax.specs.declared.body.Expr.{Expr as ExprValue}
use Rattle.tower_syntax.specs.declared.body.Place.{Place as PlaceValue}
use Rattle.tower_syntax.specs.declared.body.PlaceStep.{PlaceStep as StepValue}
use Rattle.tower_syntax.specs.declared.body.PlaceStep.TheVariants as step
use Rattle.tower_syntax.specs.declared.body.Expr.TheFolds.{fold_out-Place}
use Rattle.channel_graph.specs.Stepped.{step_of}
use Rattle.channel_graph.specs.Scoped.{part_shape}
use Rattle.channel_graph.proofs.Weighed.{step_of-Field, step_of-At}
use Rattle.task_code.specs.declared.program.Instr.{Instr}
use Rattle.task_code.specs.Piece.{Piece, nil, ◌▸◌, end, listed}
use Rattle.task_code.proofs.Joined.{then}
use Rattle.stmt_code.specs.Layout.{Layout, given_index, is_moving, moves}
use Rattle.stmt_code.specs.Body.{expr_code, steps_code, index_code, scaled, added, if_moving}
use Rattle.stmt_code.specs.Seen.{step_moves}

-- a place is its root and its steps
pub place_of-steps : (p : PlaceValue) → place_of p ≡ Place.place p.root (steps_of (map step_of p.steps))
place_of-steps p = fold_out-Place Expr Step Place expr_step step_step place_step p

-- the rest of a place begins with the step that is read
pub rest-steps : (xs : List StepValue) (i : ℕ) (y : StepValue) → i < length xs → y ≡ get_or xs i y → steps_of (map step_of (drop i xs)) ≡ step_of y (steps_of (map step_of (drop (i + 1) xs)))
rest-steps xs i y within read =
    ap (λ ys. steps_of (map step_of ys)) (drop-cons xs i y within) ∙ ap (λ z. step_of z (steps_of (map step_of (drop (suc i) xs)))) (sym read)
    ∙ ap (λ j. step_of y (steps_of (map step_of (drop j xs)))) (sym (add-one i))

-- the code goes on behind a step as it goes on before it
abbrev pub GoesOn : Layout → Bool → Shape → List Instr → List Instr → Step → Type 0
GoesOn w begun s old new st =
    (rest : Steps) → new ++ listed (steps_code w (length new) (moves (st no_steps) || begun) (steps_shape s (st no_steps)) rest) ≡ old ++ listed (steps_code w (length old) begun s (st rest))

goes_field : (w : Layout) (begun : Bool) (s : Shape) (old : List Instr) (k : ℕ) → GoesOn w begun s old old (field k)
goes_field w begun s old k rest = refl

-- the code of an index that moves, or nothing
abbrev index_piece : Layout → ℕ → Bool → Shape → Expr → Piece
index_piece w from begun s e = expr_code w from e ▸ scaled (words (element_shape s)) ▸ added begun

goes_moving : (w : Layout) (begun : Bool) (s : Shape) (old new : List Instr) (e : Expr) → given_index e ≡ None → new ≡ old ++ listed (index_piece w (length old) begun s e) → GoesOn w begun s old new (at e)
goes_moving w begun s old new e none made rest =
    let x = index_piece w (length old) begun s e in
    let P : Option ℕ → Type 0 = λ o. new ++ listed (steps_code w (length new) ((is_moving o || false) || begun) (element_shape s) rest) ≡ old ++ listed (if_moving o x ▸ steps_code w (end (length old) (if_moving o x)) (is_moving o || begun) (element_shape s) rest) in
    subst P (sym none) (then old new (new ++ listed (steps_code w (length new) true (element_shape s) rest)) x (λ n. steps_code w n true (element_shape s) rest) made refl)

goes_given : (w : Layout) (begun : Bool) (s : Shape) (old : List Instr) (e : Expr) (k : ℕ) → given_index e ≡ Some k → GoesOn w begun s old old (at e)
goes_given w begun s old e k some rest =
    let x = index_piece w (length old) begun s e in
    let P : Option ℕ → Type 0 = λ o. old ++ listed (steps_code w (length old) ((is_moving o || false) || begun) (element_shape s) rest) ≡ old ++ listed (if_moving o x ▸ steps_code w (end (length old) (if_moving o x)) (is_moving o || begun) (element_shape s) rest) in
    subst P (sym some) refl

given_of : (o : Option ℕ) → is_moving o ≡ false → (k : ℕ) × (o ≡ Some k)
given_of None h = cc
given_of (Some k) h = (k, refl)

none_of : (o : Option ℕ) → is_moving o ≡ true → o ≡ None
none_of None h = refl
none_of (Some k) h = cc

-- a field has no code
pub on_field : (w : Layout) (begun : Bool) (s : Shape) (old : List Instr) (y : StepValue) (k : ℕ) → y ≡ step.Field k → GoesOn w begun s old old (step_of y)
on_field w begun s old y k is = subst (GoesOn w begun s old old) (sym (ap step_of is ∙ step_of-Field k)) (goes_field w begun s old k)

-- nor has an index that the text gives
pub on_given : (w : Layout) (begun : Bool) (s : Shape) (old : List Instr) (y : StepValue) (e : ExprValue) → y ≡ step.At e → is_moving (given_index (expr_of e)) ≡ false → GoesOn w begun s old old (step_of y)
on_given w begun s old y e is fixed =
    let given = given_of (given_index (expr_of e)) fixed in
    subst (GoesOn w begun s old old) (sym (ap step_of is ∙ step_of-At e)) (goes_given w begun s old (expr_of e) given.0 given.1)

-- one that moves has that of its expression
pub on_moving : (w : Layout) (begun : Bool) (s : Shape) (old c1 c2 c3 : List Instr) (y : StepValue) (e : ExprValue) (width : ℕ)
    → y ≡ step.At e
    → is_moving (given_index (expr_of e)) ≡ true
    → c1 ≡ old ++ listed (expr_code w (length old) (expr_of e))
    → width ≡ words (part_shape y s)
    → c2 ≡ c1 ++ listed (scaled width)
    → c3 ≡ c2 ++ listed (added begun)
    → GoesOn w begun s old c3 (step_of y)
on_moving w begun s old c1 c2 c3 y e width is moving h1 wide h2 h3 =
    let place = ap step_of is ∙ step_of-At e in
    let width_is : width ≡ words (element_shape s) = wide ∙ ap (λ (st : Step). words (steps_shape s (st no_steps))) place in
    let scaled_is : c2 ≡ c1 ++ listed (scaled (words (element_shape s))) = h2 ∙ ap (λ n. c1 ++ listed (scaled n)) width_is in
    let tail : c3 ≡ c1 ++ listed (scaled (words (element_shape s)) ▸ added begun) = then c1 c2 c3 (scaled (words (element_shape s))) (λ n. added begun) scaled_is h3 in
    let made : c3 ≡ old ++ listed (index_piece w (length old) begun s (expr_of e)) = then old c1 c3 (expr_code w (length old) (expr_of e)) (λ n. scaled (words (element_shape s)) ▸ added begun) h1 tail in
    subst (GoesOn w begun s old c3) (sym place) (goes_moving w begun s old c3 (expr_of e) (none_of (given_index (expr_of e)) moving) made)

-- nothing is added where nothing is to be added
pub added_none : (code : List Instr) (begun : Bool) → begun ≡ false → code ≡ code ++ listed (added begun)
added_none code begun h = sym (append-nil code) ∙ ap (λ b. code ++ listed (added b)) (sym h)

-- behind the last step nothing is to come
pub steps_end : (w : Layout) (code whole : List Instr) (begun : Bool) (s : Shape) (xs : List StepValue) (i : ℕ) → i ≡ length xs → code ++ listed (steps_code w (length code) begun s (steps_of (map step_of (drop i xs)))) ≡ whole → code ≡ whole
steps_end w code whole begun s xs i end h =
    sym (append-nil code) ∙ ap (λ ys. code ++ listed (steps_code w (length code) begun s (steps_of (map step_of ys)))) (sym (ap (λ j. drop j xs) end ∙ drop-length xs)) ∙ h
