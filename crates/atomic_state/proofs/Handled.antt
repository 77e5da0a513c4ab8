-- Handlers on messages that fit.
use Rattle.std.proofs.Common.{◌≡◌, ◌∙◌, ℕ, zero, suc, ◌+◌, ◌<◌, ◌≤◌, List, [], ◌∷◌, length, map, fold, drop, get_or, true, All, refl, ap, sym, subst, arith}
use Rattle.std.proofs.Math.Seq.{drop-length}
use Rattle.std.proofs.lemmas.List.Elements.{All-head, All-tail, All-nil, All-cons}
use Rattle.tower_types.specs.Ty.{Ty, scalar, array, rec, Name, Fields, Shape, table_of, NamesBelow, nesting}
use Rattle.tower_types.specs.Records.{IsTypeAmong}
use Rattle.tower_types.specs.Value.{Value}
use Rattle.tower_syntax.specs.declared.body.Body.{Body as BodyValue}
use Rattle.tower_syntax.specs.Arch.{Arch, Handler, Body}
use Rattle.tower_syntax.specs.View.{body_of}
use Rattle.tower_syntax.specs.Typed.{no_names, AreProperFields, AreTypedStmts}
use Rattle.tower_syntax.specs.Weights.{scope_of, field_shapes, states_of}
use Rattle.tower_syntax.specs.WellNumbered.{type_height, IsNumberedType, IsNumberedBody, IsNumberedHandler}
use Rattle.tower_meaning.specs.Body.{Effect, Execution, Environment, at_entry, after_stmts, after_callback, zeros_of_fields}
use Rattle.tower_meaning.specs.Fitting.{RunsAll, RunsCallback}
use Rattle.tower_meaning.proofs.Effects.{zeros_fit, callback_fits, IsFittingEffect}
use Rattle.tower_meaning.proofs.KeepsTypes.{operations}
use Rattle.atomic_state.specs.Items.{CanHandle}
use Rattle.atomic_state.proofs.Executed.{DoesAll}
use Rattle.atomic_state.proofs.Lists.{left_of}

-- ---- one callback

abbrev pub began : Value → Effect → List Value → Execution
began message before zeros = record { env = at_entry message before.states zeros; lists = before.lists }

pub called : (arch : Arch) (message m : Value) (before : Effect) (b : Body) (zeros names : List Value) (y : Execution) → zeros ≡ zeros_of_fields (table_of arch.records) b.binders → m ≡ message → names ≡ zeros
    → DoesAll zeros b.stmts (began m before names) y → RunsCallback arch message before b
    → record { states = y.env.states; lists = y.lists } ≡ after_callback (table_of arch.records) message before b
called arch message m before b zeros names y e f g does h =
    let zs = zeros_of_fields (table_of arch.records) b.binders in
    let runs : RunsAll zs b.stmts (began message before zs) = record { scope = h.scope; names = no_names; zeros_fit = h.zeros_fit; run_fits = h.run_fits; typed = h.typed } in
    let start : began m before names ≡ began message before zs = ap (λ n. began n before names) f ∙ ap (began message before) (g ∙ e) in
    let here : RunsAll zeros b.stmts (began m before names) = subst (RunsAll zeros b.stmts) (sym start) (subst (λ z. RunsAll z b.stmts (began message before zs)) (sym e) runs) in
    ap (λ (x : Execution). record { states = x.env.states; lists = x.lists })
    (does here ∙ ap (after_stmts zeros b.stmts) start ∙ ap (λ z. after_stmts z b.stmts (began message before zs)) e)

-- ---- all callbacks

low : (t : Ty) → nesting t ≤ type_height t
low (scalar s) = omega arith
low (array n t) = omega (arith, low t)
low (rec r) = omega arith

known_type : (n : ℕ) (t : Ty) → IsNumberedType n t → IsTypeAmong n t
known_type n t h = (h.0, omega (arith, h.1, low t))

pub all_known : (n : ℕ) (fields : Fields) → All (λ f. IsNumberedType n f.1) fields → All (λ f. IsTypeAmong n f.1) fields
all_known n [] h = All-nil (λ (f : Name × Ty). IsTypeAmong n f.1)
all_known n (f ∷ fs) h =
    All-cons (λ (f : Name × Ty). IsTypeAmong n f.1) f fs (known_type n f.1 (All-head (λ (f : Name × Ty). IsNumberedType n f.1) f fs h)) (all_known n fs (All-tail (λ (f : Name × Ty). IsNumberedType n f.1) f fs h))

body_at : (P : Body → Type 0) (xs : List BodyValue) (i : ℕ) (b : BodyValue) → All P (map body_of xs) → i < length xs → b ≡ get_or xs i b → P (body_of b)
body_at P [] i b h lt e = absurd (omega arith)
body_at P (x ∷ xs) zero b h lt e = subst (λ y. P (body_of y)) (sym e) (All-head P (body_of x) (map body_of xs) h)
body_at P (x ∷ xs) (suc i) b h lt e = body_at P xs i b (All-tail P (body_of x) (map body_of xs) h) (omega arith) e

-- the names that a callback binds have known types
pub names_known : (arch : Arch) (h : Handler) (xs : List BodyValue) (i : ℕ) (b : BodyValue) → IsNumberedHandler arch h → map body_of xs ≡ h.callbacks → i < length xs → b ≡ get_or xs i b
    → All (λ f. IsTypeAmong (length arch.records) f.1) (body_of b).binders
names_known arch h xs i b n same lt read =
    let one : IsNumberedBody arch h (body_of b) = body_at (IsNumberedBody arch h) xs i b (subst (All (IsNumberedBody arch h)) (sym same) n.callbacks) lt read in
    all_known (length arch.records) (body_of b).binders one.binders.1

module _ (arch : Arch) (h : Handler) (message : Value) (xs : List BodyValue) where
  abbrev step : Effect → Body → Effect
  step = after_callback (table_of arch.records) message

  -- the effect after the first i callbacks
  abbrev pub IsCalled : Effect → ℕ → Effect → Type 0
  IsCalled before i e = CanHandle arch h message before → CanHandle arch h message e × (fold step e (map body_of (drop i xs)) ≡ fold step before (map body_of xs))

  proper : map body_of xs ≡ h.callbacks → (i : ℕ) (b : BodyValue) (e : Effect) → CanHandle arch h message e → i < length xs → b ≡ get_or xs i b → AreProperFields arch (body_of b).binders
  proper same i b e c lt read = body_at (λ b. AreProperFields arch b.binders) xs i b (subst (All (λ b. AreProperFields arch b.binders)) (sym same) c.typed.names) lt read

  typed : map body_of xs ≡ h.callbacks → (i : ℕ) (b : BodyValue) (e : Effect) → CanHandle arch h message e → i < length xs → b ≡ get_or xs i b → AreTypedStmts (scope_of arch h (body_of b)) no_names (body_of b).stmts
  typed same i b e c lt read =
      body_at (λ b. AreTypedStmts (scope_of arch h b) no_names b.stmts) xs i b (subst (All (λ b. AreTypedStmts (scope_of arch h b) no_names b.stmts)) (sym same) c.typed.callbacks) lt read

  runs_callback : map body_of xs ≡ h.callbacks → (i : ℕ) (b : BodyValue) (e : Effect) → CanHandle arch h message e → i < length xs → b ≡ get_or xs i b → RunsCallback arch message e (body_of b)
  runs_callback same i b e c lt read =
      let z = zeros_fit (table_of arch.records) (body_of b).binders (proper same i b e c lt read) in
      record {
        scope = scope_of arch h (body_of b);
        known = names_known arch h xs i b c.numbered same lt read;
        zeros_fit = z;
        run_fits = record { env = record { message = c.message_fits; binders = z; states = c.states_fit }; lists = c.lists_fit };
        typed = typed same i b e c lt read;
      }

  still : map body_of xs ≡ h.callbacks → (i : ℕ) (b : BodyValue) (e : Effect) → CanHandle arch h message e → i < length xs → b ≡ get_or xs i b → CanHandle arch h message (step e (body_of b))
  still same i b e c lt read =
      let g : IsFittingEffect (field_shapes (table_of arch.records) (states_of arch h.monitor)) _ e = record { states_fit = c.states_fit; lists_fit = c.lists_fit } in
      let f = callback_fits operations arch h message c.message_fits (body_of b) e (proper same i b e c lt read) (typed same i b e c lt read) g in
      record { numbered = c.numbered; typed = c.typed; message_fits = c.message_fits; states_fit = f.states_fit; lists_fit = f.lists_fit }

  pub none_called : (before : Effect) → IsCalled before 0 before
  none_called before c = (c, refl)

  pub one_called : map body_of xs ≡ h.callbacks → (before e f : Effect) (i : ℕ) (b : BodyValue) → i < length xs → b ≡ get_or xs i b → (RunsCallback arch message e (body_of b) → f ≡ step e (body_of b)) → IsCalled before i e → IsCalled before (i + 1) f
  one_called same before e f i b lt read does far c =
      let was = far c in
      let is : f ≡ step e (body_of b) = does (runs_callback same i b e was.0 lt read) in (
        subst (CanHandle arch h message) (sym is) (still same i b e was.0 lt read),
        ap (λ g. fold step g (map body_of (drop (i + 1) xs))) is ∙ sym (ap (λ bs. fold step e (map body_of bs)) (left_of xs i b lt read)) ∙ was.1,
      )

  pub all_called : (before e : Effect) (i : ℕ) → i ≡ length xs → IsCalled before i e → CanHandle arch h message before → e ≡ fold step before (map body_of xs)
  all_called before e i end far c = sym (ap (λ bs. fold step e (map body_of bs)) (ap (λ j. drop j xs) end ∙ drop-length xs)) ∙ (far c).1
