-- The paths of typed places.
use Rattle.std.proofs.Common.{◌≡◌, ◌∙◌, ℕ, ◌+◌, ◌<◌, ℤ, List, [], ◌∷◌, ◌++◌, length, map, drop, get_or, refl, ap, sym, subst, unsigned_abs, append_assoc, append-nil}
use Rattle.std.proofs.Math.Seq.{drop-length}
use Rattle.tower_types.specs.declared.scalar.Scalar.TheVariants as scalar
use Rattle.tower_types.specs.Ty.{Shape, one, many, all}
use Rattle.tower_types.specs.Value.{Value, num, part}
use Rattle.tower_syntax.specs.declared.body.Root.{Root}
use Rattle.tower_syntax.specs.declared.body.Place.{Place as PlaceValue}
use Rattle.tower_syntax.specs.declared.body.PlaceStep.{PlaceStep as StepValue}
use Rattle.tower_syntax.specs.declared.body.PlaceStep.TheVariants as step
use Rattle.tower_syntax.specs.declared.body.Expr.{Expr as ExprValue}
use Rattle.tower_syntax.specs.declared.body.Expr.TheOpen.{PlaceStep-F}
use Rattle.tower_syntax.specs.declared.body.Expr.TheFolds.{fold-roll-PlaceStep, fold_out-Place}
use Rattle.tower_syntax.specs.Tree.{Expr, Place, place, Steps, no_steps, field, at}
use Rattle.tower_syntax.specs.View.{Step, expr_of, place_of, steps_of, expr_step, step_step, place_step}
use Rattle.tower_syntax.specs.Typed.{HasScalar, Leads, AtElement}
use Rattle.tower_syntax.specs.Weights.{root_shape}
use Rattle.tower_meaning.specs.Body.{Environment, expr_value, place_value, path_of, part_at, root_value}
use Rattle.tower_meaning.specs.Fitting.{IsNumber, IsPath, IsPlace}
use Rattle.atomic_state.specs.Places.{step_of, steps_in}
use Rattle.atomic_state.proofs.Lists.{left_of}
use Rattle.atomic_state.proofs.Numbers.{Gives}

pub step_of-Field : (k : ℕ) → step_of (step.Field k) ≡ field k
step_of-Field k = ap step_of (sym (step.rolls-Field k)) ∙ fold-roll-PlaceStep Expr Step Place expr_step step_step place_step (PlaceStep-F.Field k)

pub step_of-At : (e : ExprValue) → step_of (step.At e) ≡ at (expr_of e)
step_of-At e = ap step_of (sym (step.rolls-At e)) ∙ fold-roll-PlaceStep Expr Step Place expr_step step_step place_step (PlaceStep-F.At e)

pub place_of-steps : (p : PlaceValue) → place_of p ≡ place p.root (steps_of (map step_of p.steps))
place_of-steps p = fold_out-Place Expr Step Place expr_step step_step place_step p

-- the steps from the i-th on
abbrev pub rest : List StepValue → ℕ → Steps
rest xs i = steps_of (map step_of (drop i xs))

pub rest_is : (xs : List StepValue) (i : ℕ) (y : StepValue) → i < length xs → y ≡ get_or xs i y → rest xs i ≡ step_of y (rest xs (i + 1))
rest_is xs i y within read = ap (λ ys. steps_of (map step_of ys)) (left_of xs i y within read)

pub none_left : (xs : List StepValue) (i : ℕ) → i ≡ length xs → rest xs i ≡ no_steps
none_left xs i e = ap (λ ys. steps_of (map step_of ys)) (ap (λ j. drop j xs) e ∙ drop-length xs)

-- ---- one step

-- a step leads through this part
abbrev pub LeadsBy : Environment → Step → ℕ → Type 0
LeadsBy env s k = (more : Steps) → IsPath env (s more) → (path_of env (s more) ≡ k ∷ path_of env more) × IsPath env more

field_leads : (env : Environment) (k : ℕ) → LeadsBy env (field k) k
field_leads env k more h = (refl, by h.from h.typed)
  where
    by : (from : Shape) → Leads h.scope h.names from (field k more) h.to → IsPath env more
    by (one s) t = absurd t
    by (many n s) t = absurd t
    by (all ss) t = record { scope = h.scope; names = h.names; from = _; to = h.to; values_fit = h.values_fit; typed = t.1 }

at_leads : (env : Environment) (e : Expr) (n : ℤ) → Gives env e n → LeadsBy env (at e) (unsigned_abs n)
at_leads env e n f more h = by h.from h.typed
  where
    by : (from : Shape) → Leads h.scope h.names from (at e more) h.to → (path_of env (at e more) ≡ unsigned_abs n ∷ path_of env more) × IsPath env more
    by (one s) t = absurd t
    by (many m s) t =
        let number : IsNumber env e = record { scope = h.scope; names = h.names; scalar = scalar.Ix m; values_fit = h.values_fit; typed = t.0 } in
        (ap (λ z. unsigned_abs z ∷ path_of env more) (sym (f number)), record { scope = h.scope; names = h.names; from = s; to = h.to; values_fit = h.values_fit; typed = t.1 })
    by (all ss) t = absurd t

pub by_field : (env : Environment) (s : StepValue) (j k : ℕ) → s ≡ step.Field j → k ≡ j → LeadsBy env (step_of s) k
by_field env s j k is same = subst (λ (x : Step). LeadsBy env x k) (sym (ap step_of is ∙ step_of-Field j)) (subst (LeadsBy env (field j)) (sym same) (field_leads env j))

pub by_at : (env : Environment) (s : StepValue) (e : ExprValue) (n : ℤ) (k : ℕ) → s ≡ step.At e → Gives env (expr_of e) n → k ≡ unsigned_abs n → LeadsBy env (step_of s) k
by_at env s e n k is f same = subst (λ (x : Step). LeadsBy env x k) (sym (ap step_of is ∙ step_of-At e)) (subst (LeadsBy env (at (expr_of e))) (sym same) (at_leads env (expr_of e) n f))

-- ---- many steps

pub path_in : (env : Environment) (r : Root) (steps : Steps) → IsPlace env (place r steps) → IsPath env steps
path_in env r steps h = record { scope = h.scope; names = h.names; from = root_shape h.scope r; to = h.shape; values_fit = h.values_fit; typed = h.typed.1 }

-- from this part the rest of the steps leads to the place
abbrev pub IsOnTheWay : Environment → Place → List StepValue → ℕ → Value → Type 0
IsOnTheWay env p xs i v = IsPlace env p → IsPath env (rest xs i) × (part_at (path_of env (rest xs i)) v ≡ place_value env p)

pub begun : (env : Environment) (p : PlaceValue) (xs : List StepValue) (v : Value) → xs ≡ p.steps → v ≡ root_value env p.root → IsOnTheWay env (place_of p) xs 0 v
begun env p xs v same is = subst (λ q. IsOnTheWay env q xs 0 v) (sym (place_of-steps p ∙ ap (λ ys. place p.root (steps_of (map step_of ys))) (sym same)))
    (λ h. (path_in env p.root (rest xs 0) h, ap (part_at (path_of env (rest xs 0))) is))

pub goes_on : (env : Environment) (p : Place) (xs : List StepValue) (i : ℕ) (y : StepValue) (k : ℕ) (v w : Value) → i < length xs → y ≡ get_or xs i y → LeadsBy env (step_of y) k → w ≡ part k v
    → IsOnTheWay env p xs i v → IsOnTheWay env p xs (i + 1) w
goes_on env p xs i y k v w within read leads is way h =
    let before = way h in
    let here = rest_is xs i y within read in
    let one = leads (rest xs (i + 1)) (subst (IsPath env) here before.0) in
    (one.1, ap (part_at (path_of env (rest xs (i + 1)))) is ∙ sym (ap (λ ks. part_at ks v) (ap (path_of env) here ∙ one.0)) ∙ before.1)

pub arrives : (env : Environment) (p : Place) (xs : List StepValue) (i : ℕ) (v : Value) → i ≡ length xs → IsOnTheWay env p xs i v → IsPlace env p → v ≡ place_value env p
arrives env p xs i v e way h = sym (ap (λ ss. part_at (path_of env ss) v) (none_left xs i e)) ∙ (way h).1

-- with the rest of the steps these numbers are the path
abbrev pub IsSoFar : Environment → Place → List StepValue → ℕ → List ℕ → Type 0
IsSoFar env p xs i ks = IsPlace env p → IsPath env (rest xs i) × (ks ++ path_of env (rest xs i) ≡ path_of env (steps_in p))

pub so_far : (env : Environment) (p : PlaceValue) (xs : List StepValue) → xs ≡ p.steps → IsSoFar env (place_of p) xs 0 []
so_far env p xs same = subst (λ q. IsSoFar env q xs 0 []) (sym (place_of-steps p ∙ ap (λ ys. place p.root (steps_of (map step_of ys))) (sym same)))
    (λ h. (path_in env p.root (rest xs 0) h, refl))

pub one_more : (env : Environment) (p : Place) (xs : List StepValue) (i : ℕ) (y : StepValue) (k : ℕ) (ks js : List ℕ) → i < length xs → y ≡ get_or xs i y → LeadsBy env (step_of y) k → js ≡ ks ++ k ∷ []
    → IsSoFar env p xs i ks → IsSoFar env p xs (i + 1) js
one_more env p xs i y k ks js within read leads is way h =
    let before = way h in
    let here = rest_is xs i y within read in
    let one = leads (rest xs (i + 1)) (subst (IsPath env) here before.0) in
    (one.1, ap (λ l. l ++ path_of env (rest xs (i + 1))) is ∙ append_assoc ks (k ∷ []) (path_of env (rest xs (i + 1))) ∙ sym (ap (λ l. ks ++ l) (ap (path_of env) here ∙ one.0)) ∙ before.1)

pub all_of_them : (env : Environment) (p : Place) (xs : List StepValue) (i : ℕ) (ks : List ℕ) → i ≡ length xs → IsSoFar env p xs i ks → IsPlace env p → ks ≡ path_of env (steps_in p)
all_of_them env p xs i ks e way h = sym (append-nil ks) ∙ sym (ap (λ ss. ks ++ path_of env ss) (none_left xs i e)) ∙ (way h).1
