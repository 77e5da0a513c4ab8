-- Typed statements, executed.
use Rattle.std.proofs.Common.{◌≡◌, ◌∙◌, ℕ, zero, suc, ◌+◌, ◌<◌, ℤ, pos, List, [], ◌∷◌, ◌++◌, length, map, drop, get_or, slice_set, slice_index_or, true, false, cond, refl, ap, sym, subst, arith, add-one}
use Rattle.std.proofs.Math.Seq.{drop-length}
use Rattle.std.proofs.lemmas.List.{map-append}
use Rattle.tower_types.specs.Ty.{one}
use Rattle.tower_types.specs.declared.scalar.Scalar.TheVariants as scalar
use Rattle.tower_types.specs.Value.{Value, word, num, fits}
use Rattle.tower_types.specs.View.{value_of}
use Rattle.tower_types.specs.declared.value.Value.{Value as ValueValue}
use Rattle.tower_types.specs.Arithmetic.{is_true}
use Rattle.tower_syntax.specs.declared.body.Root.TheVariants as root
use Rattle.tower_syntax.specs.declared.body.Stmt.{Stmt as StmtValue}
use Rattle.tower_syntax.specs.declared.body.Place.{Place as PlaceValue}
use Rattle.tower_syntax.specs.Tree.{Expr, Place, Stmt, bind, local, set, copy, branch, loop, emit, Stmts, no_stmts, stmt}
use Rattle.tower_syntax.specs.View.{place_of, stmt_of, all_stmts_of, stmts_of}
use Rattle.tower_syntax.specs.Typed.{read_only, with_name, names_after}
use Rattle.tower_meaning.specs.Body.{Environment, Execution, expr_value, place_value, path_of, root_value, with_part_at, with_root, with_place, in_env, emitted, in_turn, after_stmt, after_stmts}
use Rattle.tower_meaning.specs.Fitting.{IsNumber, IsPlace, IsValue, Runs, RunsAll, IsFittingRun}
use Rattle.tower_meaning.proofs.Fitting.{index_fits}
use Rattle.tower_meaning.proofs.Values.{with_root_fits}
use Rattle.tower_meaning.proofs.Statements.{turns_keep, stmt_fits, stmts_fit}
use Rattle.tower_meaning.proofs.KeepsTypes.{operations}
use Rattle.atomic_state.specs.Places.{steps_in}
use Rattle.atomic_state.proofs.Lists.{left_of, map_set, got_map}
use Rattle.atomic_state.proofs.Paths.{place_of-steps}
use Rattle.atomic_state.proofs.Numbers.{Gives, is_word, not_zero}

-- the statement leads from x to y, if it can be executed
abbrev pub Does : List Value → Stmt → Execution → Execution → Type 0
Does zeros s x y = Runs zeros s x → y ≡ after_stmt zeros s x

abbrev pub DoesAll : List Value → Stmts → Execution → Execution → Type 0
DoesAll zeros ss x y = RunsAll zeros ss x → y ≡ after_stmts zeros ss x

module _ (zeros : List Value) (x y : Execution) where
  given : (s t : Stmt) → s ≡ t → Does zeros t x y → Does zeros s x y
  given s t is f = subst (λ u. Does zeros u x y) (sym is) f

  pub binds : (s : Stmt) (b : ℕ) (e : Expr) (n : ℤ) (v : Value) → s ≡ bind b e → Gives x.env e n → v ≡ word n → y ≡ in_env (with_root (root.Binder b) v x.env) x → Does zeros s x y
  binds s b e n v is f to made = given s (bind b e) is (λ h.
      let number : IsNumber x.env e = record { scope = h.scope; names = h.names; scalar = h.typed.1.0; values_fit = h.run_fits.env; typed = h.typed.1.2 } in
      made ∙ ap (λ w. in_env (with_root (root.Binder b) w x.env) x) (to ∙ ap word (f number) ∙ sym (is_word x.env e number)))

  pub sets : (s : Stmt) (p : Place) (e : Expr) → s ≡ set p e → (IsPlace x.env p → IsNumber x.env e → y ≡ in_env (with_place p (expr_value x.env e) x.env) x) → Does zeros s x y
  sets s p e is f = given s (set p e) is (λ h.
      f (record { scope = h.scope; names = h.names; shape = one h.typed.1.0; values_fit = h.run_fits.env; typed = h.typed.1.1 })
      (record { scope = h.scope; names = h.names; scalar = h.typed.1.0; values_fit = h.run_fits.env; typed = h.typed.1.2 }))

  pub copies : (s : Stmt) (p q : Place) → s ≡ copy p q → (IsPlace x.env p → IsPlace x.env q → y ≡ in_env (with_place p (place_value x.env q) x.env) x) → Does zeros s x y
  copies s p q is f = given s (copy p q) is (λ h.
      f (record { scope = h.scope; names = h.names; shape = h.typed.1.0; values_fit = h.run_fits.env; typed = h.typed.1.1 })
      (record { scope = h.scope; names = h.names; shape = h.typed.1.0; values_fit = h.run_fits.env; typed = h.typed.1.2 }))

  pub emits : (s : Stmt) (k : ℕ) (e : Expr) → s ≡ emit k e → (IsValue x.env e → y ≡ emitted k (expr_value x.env e) x) → Does zeros s x y
  emits s k e is f = given s (emit k e) is (λ h. f (record { scope = h.scope; names = h.names; shape = _; values_fit = h.run_fits.env; typed = h.typed.1 }))

  test : (e : Expr) (n : ℤ) (a b : Stmts) → Gives x.env e n → Runs zeros (branch e a b) x → n ≡ num (expr_value x.env e)
  test e n a b f h = f (record { scope = h.scope; names = h.names; scalar = scalar.Bool; values_fit = h.run_fits.env; typed = h.typed.0 })

  pub takes_first : (s : Stmt) (e : Expr) (n : ℤ) (a b : Stmts) → s ≡ branch e a b → Gives x.env e n → (n ≡ pos 0 → ⊥) → DoesAll zeros a x y → Does zeros s x y
  takes_first s e n a b is f t g = given s (branch e a b) is (λ h.
      g (record { scope = h.scope; names = h.names; zeros_fit = h.zeros_fit; run_fits = h.run_fits; typed = h.typed.1 })
      ∙ sym (ap (λ k. cond k (after_stmts zeros a x) (after_stmts zeros b x)) (ap is_true (sym (test e n a b f h)) ∙ not_zero n t)))

  pub takes_second : (s : Stmt) (e : Expr) (n : ℤ) (a b : Stmts) → s ≡ branch e a b → Gives x.env e n → n ≡ pos 0 → DoesAll zeros b x y → Does zeros s x y
  takes_second s e n a b is f t g = given s (branch e a b) is (λ h.
      g (record { scope = h.scope; names = h.names; zeros_fit = h.zeros_fit; run_fits = h.run_fits; typed = h.typed.2 })
      ∙ sym (ap (λ k. cond k (after_stmts zeros a x) (after_stmts zeros b x)) (ap is_true (sym (test e n a b f h) ∙ t))))

-- ---- loops

abbrev pub at_turn : ℕ → ℕ → Execution → Execution
at_turn b i y = in_env (with_root (root.Binder b) (word (pos i)) y.env) y

abbrev pub turn : List Value → ℕ → Stmts → ℕ → Execution → Execution
turn zeros b body i y = after_stmts zeros body (at_turn b i y)

-- y is x after i turns of the loop
abbrev pub IsTurned : List Value → ℕ → ℕ → Stmts → Execution → ℕ → Execution → Type 0
IsTurned zeros b n body x i y = Runs zeros (loop b n body) x → y ≡ in_turn i (turn zeros b body) x

module _ (zeros : List Value) (b n : ℕ) (body : Stmts) (x : Execution) (h : Runs zeros (loop b n body) x) where
  entered : (i : ℕ) (y : Execution) → i < n → IsFittingRun h.scope y → IsFittingRun h.scope (at_turn b i y)
  entered i y lt f = record { env = with_root_fits h.scope y.env (root.Binder b) (word (pos i)) f.env (subst (λ s. fits s (word (pos i)) ≡ true) (sym h.typed.1) (index_fits n i lt)); lists = f.lists }

  turned_fits : (i : ℕ) → i < suc n → IsFittingRun h.scope (in_turn i (turn zeros b body) x)
  turned_fits i lt = turns_keep (IsFittingRun h.scope) i n (turn zeros b body) x lt
      (λ j y below f. stmts_fit operations h.scope zeros h.zeros_fit body (with_name b read_only h.names) (at_turn b j y) h.typed.4 (entered j y below f)) h.run_fits

  runs_turn : (i : ℕ) → i < n → RunsAll zeros body (at_turn b i (in_turn i (turn zeros b body) x))
  runs_turn i lt = record { scope = h.scope; names = with_name b read_only h.names; zeros_fit = h.zeros_fit; run_fits = entered i _ lt (turned_fits i (omega arith)); typed = h.typed.4 }

pub next_turn : (zeros : List Value) (b n : ℕ) (body : Stmts) (x y z w : Execution) (i : ℕ) (v : Value) → i < n → z ≡ in_env (with_root (root.Binder b) v y.env) y → v ≡ word (pos i) → DoesAll zeros body z w
    → IsTurned zeros b n body x i y → IsTurned zeros b n body x (i + 1) w
next_turn zeros b n body x y z w i v lt made to does far h =
    let here : z ≡ at_turn b i (in_turn i (turn zeros b body) x) = made ∙ ap (λ u. in_env (with_root (root.Binder b) u y.env) y) to ∙ ap (at_turn b i) (far h) in
    let more : in_turn (suc i) (turn zeros b body) x ≡ in_turn (i + 1) (turn zeros b body) x = ap (λ j. in_turn j (turn zeros b body) x) (sym (add-one i)) in
    does (subst (RunsAll zeros body) (sym here) (runs_turn zeros b n body x h i lt)) ∙ ap (after_stmts zeros body) here ∙ more

pub loops : (zeros : List Value) (x y : Execution) (s : Stmt) (b n i : ℕ) (body : Stmts) → s ≡ loop b n body → i ≡ n → IsTurned zeros b n body x i y → Does zeros s x y
loops zeros x y s b n i body is all f = subst (λ u. Does zeros u x y) (sym is) (λ h. f h ∙ ap (λ j. in_turn j (turn zeros b body) x) all)

-- ---- one after another

-- y is x after the first i statements
abbrev pub IsPast : List Value → List StmtValue → Execution → ℕ → Execution → Type 0
IsPast zeros xs x i y =
    RunsAll zeros (all_stmts_of xs) x → RunsAll zeros (all_stmts_of (drop i xs)) y × (after_stmts zeros (all_stmts_of (drop i xs)) y ≡ after_stmts zeros (all_stmts_of xs) x)

first_runs : (zeros : List Value) (s : Stmt) (ss : Stmts) (y : Execution) → RunsAll zeros (stmt s ss) y → Runs zeros s y
first_runs zeros s ss y h = record { scope = h.scope; names = h.names; zeros_fit = h.zeros_fit; run_fits = h.run_fits; typed = h.typed.0 }

rest_runs : (zeros : List Value) (s : Stmt) (ss : Stmts) (y : Execution) → RunsAll zeros (stmt s ss) y → RunsAll zeros ss (after_stmt zeros s y)
rest_runs zeros s ss y h = record {
  scope = h.scope;
  names = names_after s h.names;
  zeros_fit = h.zeros_fit;
  run_fits = stmt_fits operations h.scope zeros h.zeros_fit s h.names y h.typed.0 h.run_fits;
  typed = h.typed.1;
}

pub one_past : (zeros : List Value) (xs : List StmtValue) (x y z : Execution) (i : ℕ) (s : StmtValue) → i < length xs → s ≡ get_or xs i s → Does zeros (stmt_of s) y z
    → IsPast zeros xs x i y → IsPast zeros xs x (i + 1) z
one_past zeros xs x y z i s lt read does past h =
    let before = past h in
    let rest = all_stmts_of (drop (i + 1) xs) in
    let list : all_stmts_of (drop i xs) ≡ stmt (stmt_of s) rest = ap all_stmts_of (left_of xs i s lt read) in
    let runs : RunsAll zeros (stmt (stmt_of s) rest) y = subst (λ ss. RunsAll zeros ss y) list before.0 in
    let is : z ≡ after_stmt zeros (stmt_of s) y = does (first_runs zeros (stmt_of s) rest y runs) in (
      subst (RunsAll zeros rest) (sym is) (rest_runs zeros (stmt_of s) rest y runs),
      ap (after_stmts zeros rest) is ∙ sym (ap (λ ss. after_stmts zeros ss y) list) ∙ before.1,
    )

pub all_past : (zeros : List Value) (xs : List StmtValue) (x y : Execution) (i : ℕ) → i ≡ length xs → IsPast zeros xs x i y → DoesAll zeros (all_stmts_of xs) x y
all_past zeros xs x y i e past h = sym (ap (λ ys. after_stmts zeros (all_stmts_of ys) y) (ap (λ j. drop j xs) e ∙ drop-length xs)) ∙ (past h).1

-- ---- what is written and emitted

pub set_done : (env : Environment) (x y : Execution) (p : PlaceValue) (ks : List ℕ) (v w : Value) → y ≡ in_env (with_root p.root (with_part_at ks w (root_value env p.root)) env) x
    → ks ≡ path_of env (steps_in (place_of p)) → w ≡ v → y ≡ in_env (with_place (place_of p) v env) x
set_done env x y p ks v w made e same =
    made ∙ ap (λ l. in_env (with_root p.root (with_part_at l w (root_value env p.root)) env) x) e
    ∙ ap (λ u. in_env (with_root p.root (with_part_at (path_of env (steps_in (place_of p))) u (root_value env p.root)) env) x) same
    ∙ subst (λ q. in_env (with_root p.root (with_part_at (path_of env (steps_in q)) v (root_value env p.root)) env) x ≡ in_env (with_place q v env) x) (sym (place_of-steps p)) refl

pub emit_done : (lists : List (List ValueValue)) (k : ℕ) (l new : List ValueValue) (x : ValueValue) (v : Value) → k < length lists → l ≡ get_or lists k l → new ≡ l ++ x ∷ [] → value_of x ≡ v
    → map (map value_of) (slice_set lists k new) ≡ slice_set (map (map value_of) lists) k (slice_index_or (map (map value_of) lists) k [] ++ v ∷ [])
emit_done lists k l new x v lt read made is =
    map_set (map value_of) lists k new
    ∙ ap (slice_set (map (map value_of) lists) k)
    (ap (map value_of) made ∙ map-append value_of l (x ∷ []) ∙ ap (λ u. map value_of l ++ u ∷ []) is ∙ ap (λ m. m ++ v ∷ []) (got_map (map value_of) lists k l [] lt read))
