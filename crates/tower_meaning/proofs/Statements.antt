-- Typed statements keep the values of names and states within their types, and emit messages that fit.
use Rattle.std.proofs.Common.{◌≡◌, ℕ, zero, suc, ◌<◌, List, [], ◌∷◌, ◌++◌, length, pos, Bool, true, false, cond, sym, ◌∙◌, subst, arith, slice_index_or}
use Rattle.std.specs.Prelude.{All}
use Rattle.std.proofs.lemmas.List.{length-set}
use Rattle.std.proofs.lemmas.List.Elements.{All-push}
use Rattle.tower_types.specs.Ty.{Shape, one}
use Rattle.tower_types.specs.Value.{Value, word, fits, num}
use Rattle.tower_types.specs.Arithmetic.{is_true}
use Rattle.tower_syntax.specs.declared.body.Root.TheVariants as root
use Rattle.tower_syntax.specs.Tree.{Expr, lit, read, un, bin, choose, cast, Stmt, bind, local, set, copy, branch, loop, emit, Stmts, no_stmts, stmt}
use Rattle.tower_syntax.specs.Weights.{Scope, shape_at}
use Rattle.tower_syntax.specs.Typed.{Names, read_only, with_name, names_after, Sends, IsTypedStmt, AreTypedStmts}
use Rattle.tower_meaning.specs.Body.{Environment, Execution, expr_value, place_value, with_root, in_env, emitted, in_turn, after_stmt, after_stmts}
use Rattle.tower_meaning.specs.Fitting.{AreFitting, IsFitting, AreFittingLists, IsFittingRun}
use Rattle.tower_meaning.proofs.Fitting.{set_keeps, index_fits}
use Rattle.tower_meaning.proofs.Values.{Operations, with_root_fits, expr_fits, place_fits, with_place_fits}

emitted_fits : (scope : Scope) (k : ℕ) (v : Value) (x : Execution) → k < length scope.emitters → fits (shape_at scope.emitters k) v ≡ true → IsFittingRun scope x → IsFittingRun scope (emitted k v x)
emitted_fits scope k v x lt h f = record {
  env = f.env;
  lists = record {
    count = length-set x.lists k (slice_index_or x.lists k [] ++ v ∷ []) ∙ f.lists.count;
    each = λ c below.
        set_keeps (λ j l. All (λ w. fits (shape_at scope.emitters j) w ≡ true) l) x.lists (length scope.emitters) k c (slice_index_or x.lists k [] ++ v ∷ []) [] f.lists.count f.lists.each
        (All-push (λ w. fits (shape_at scope.emitters k) w ≡ true) (slice_index_or x.lists k []) v (f.lists.each k lt) h) below;
  };
}

in_env_fits : (scope : Scope) (env : Environment) (x : Execution) → IsFitting scope env → IsFittingRun scope x → IsFittingRun scope (in_env env x)
in_env_fits scope env x h f = record { env = h; lists = f.lists }

-- what each turn keeps holds after all turns
pub turns_keep : {A : Type 0} (P : A → Type 0) (n m : ℕ) (f : ℕ → A → A) (a : A) → n < suc m → ((i : ℕ) (y : A) → i < m → P y → P (f i y)) → P a → P (in_turn n f a)
turns_keep P zero m f a le h p = p
turns_keep P (suc n) m f a le h p = h n (in_turn n f a) (omega arith) (turns_keep P n m f a (omega arith) h p)

either_run : (scope : Scope) (b : Bool) (x y : Execution) → IsFittingRun scope x → IsFittingRun scope y → IsFittingRun scope (cond b x y)
either_run scope true x y h g = h
either_run scope false x y h g = g

module _ (ops : Operations) (scope : Scope) where
  sent_fits : (names : Names) (env : Environment) (e : Expr) (s : Shape) → IsFitting scope env → Sends scope names e s → fits s (expr_value env e) ≡ true
  sent_fits names env (read p) s f h = place_fits ops scope names env f p s h
  sent_fits names env (lit t n) s f h = subst (λ u. fits u (expr_value env (lit t n)) ≡ true) (sym h.1) (expr_fits ops scope names env f (lit t n) h.0 h.2)
  sent_fits names env (un op t a) s f h = subst (λ u. fits u (expr_value env (un op t a)) ≡ true) (sym h.1) (expr_fits ops scope names env f (un op t a) h.0 h.2)
  sent_fits names env (bin op t a b) s f h = subst (λ u. fits u (expr_value env (bin op t a b)) ≡ true) (sym h.1) (expr_fits ops scope names env f (bin op t a b) h.0 h.2)
  sent_fits names env (choose c a b) s f h = subst (λ u. fits u (expr_value env (choose c a b)) ≡ true) (sym h.1) (expr_fits ops scope names env f (choose c a b) h.0 h.2)
  sent_fits names env (cast t a) s f h = subst (λ u. fits u (expr_value env (cast t a)) ≡ true) (sym h.1) (expr_fits ops scope names env f (cast t a) h.0 h.2)

  module _ (zeros : List Value) (z : AreFitting scope.binders zeros) where
    mutual
      pub stmt_fits : (s : Stmt) (names : Names) (x : Execution) → IsTypedStmt scope names s → IsFittingRun scope x → IsFittingRun scope (after_stmt zeros s x)
      stmt_fits (bind b e) names x h f =
          let v = expr_value x.env e in
          let fit = subst (λ u. fits u v ≡ true) (sym h.1.1) (expr_fits ops scope names x.env f.env e h.1.0 h.1.2) in
          in_env_fits scope _ x (with_root_fits scope x.env (root.Binder b) v f.env fit) f
      stmt_fits (local b) names x h f = in_env_fits scope _ x (with_root_fits scope x.env (root.Binder b) _ f.env (z.each b h.0)) f
      stmt_fits (set p e) names x h f =
          in_env_fits scope _ x (with_place_fits ops scope names x.env f.env p (one h.1.0) (expr_value x.env e) h.1.1 (expr_fits ops scope names x.env f.env e h.1.0 h.1.2)) f
      stmt_fits (copy p q) names x h f =
          in_env_fits scope _ x (with_place_fits ops scope names x.env f.env p h.1.0 (place_value x.env q) h.1.1 (place_fits ops scope names x.env f.env q h.1.0 h.1.2)) f
      stmt_fits (branch e a b) names x h f =
          either_run scope (is_true (num (expr_value x.env e))) (after_stmts zeros a x) (after_stmts zeros b x) (stmts_fit a names x h.1 f) (stmts_fit b names x h.2 f)
      stmt_fits (loop b n body) names x h f =
          turns_keep (IsFittingRun scope) n n (λ i y. after_stmts zeros body (in_env (with_root (root.Binder b) (word (pos i)) y.env) y)) x (omega arith)
          (λ i y lt g.
          let fit = subst (λ u. fits u (word (pos i)) ≡ true) (sym h.1) (index_fits n i lt) in
          stmts_fit body (with_name b read_only names) (in_env (with_root (root.Binder b) (word (pos i)) y.env) y) h.4
          (in_env_fits scope _ y (with_root_fits scope y.env (root.Binder b) (word (pos i)) g.env fit) g)) f
      stmt_fits (emit k e) names x h f = emitted_fits scope k (expr_value x.env e) x h.0 (sent_fits names x.env e (shape_at scope.emitters k) f.env h.1) f

      pub stmts_fit : (ss : Stmts) (names : Names) (x : Execution) → AreTypedStmts scope names ss → IsFittingRun scope x → IsFittingRun scope (after_stmts zeros ss x)
      stmts_fit no_stmts names x h f = f
      stmts_fit (stmt s ss) names x h f = stmts_fit ss (names_after s names) (after_stmt zeros s x) h.1 (stmt_fits s names x h.0 f)
