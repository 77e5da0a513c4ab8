-- Names that a body may only read keep their values, scopes only grow, and a body does not change its message.
use Rattle.std.proofs.Common.{◌≡◌, ◌≢◌, ℕ, zero, suc, pos, List, refl, ap, sym, ◌∙◌, Bool, true, false, cond, ◌==◌, get_or-set_other}
use Rattle.std.proofs.lemmas.Bool.{eq-eqb, eqb-true}
use Rattle.tower_types.specs.Arithmetic.{is_true}
use Rattle.tower_types.specs.Value.{Value, word, num}
use Rattle.tower_syntax.specs.declared.body.Root.TheVariants as root
use Rattle.tower_syntax.specs.Tree.{Place, place, Stmt, bind, local, set, copy, branch, loop, emit, Stmts, no_stmts, stmt}
use Rattle.tower_syntax.specs.Weights.{Scope}
use Rattle.tower_syntax.specs.Typed.{Use, out_of_scope, read_only, writable, Names, with_name, IsInScope, IsWritable, names_after, IsTypedStmt, AreTypedStmts}
use Rattle.tower_meaning.specs.Body.{Environment, Execution, expr_value, with_place, in_turn, after_stmt, after_stmts}
use Rattle.stmt_code.proofs.Named.{named, bound, with_env}

abbrev pub after_all : Names → Stmts → Names
after_all sc no_stmts = sc
after_all sc (stmt s ss) = after_all (names_after s sc) ss

with_old : (g : Bool) (u v : Use) → IsInScope u → IsInScope v → IsInScope (cond g u v)
with_old true u v p q = p
with_old false u v p q = q

pub grows : (s : Stmt) (sc : Names) (c : ℕ) → IsInScope (sc c) → IsInScope (names_after s sc c)
grows (bind b e) sc c h = with_old (c == b) read_only (sc c) tt h
grows (local b) sc c h = with_old (c == b) writable (sc c) tt h
grows (set p e) sc c h = h
grows (copy p q) sc c h = h
grows (branch e a b) sc c h = h
grows (loop b n ss) sc c h = h
grows (emit k e) sc c h = h

pub all_grows : (ss : Stmts) (sc : Names) (c : ℕ) → IsInScope (sc c) → IsInScope (after_all sc ss c)
all_grows no_stmts sc c h = h
all_grows (stmt s ss) sc c h = all_grows ss (names_after s sc) c (grows s sc c h)

pub name_grows : (b : ℕ) (sc : Names) (c : ℕ) → IsInScope (sc c) → IsInScope (with_name b read_only sc c)
name_grows b sc c h = with_old (c == b) read_only (sc c) tt h

-- what with_name has besides b
pub with_other : (b : ℕ) (u : Use) (sc : Names) (c : ℕ) → IsInScope (with_name b u sc c) → c ≢ b → IsInScope (sc c)
with_other b u sc c h ne = pick (c == b) (λ e. ne (eqb-true c b e)) h
  where
    pick : (g : Bool) → (g ≡ true → ⊥) → IsInScope (cond g u (sc c)) → IsInScope (sc c)
    pick true no' h = absurd (no' refl)
    pick false no' h = h

pub with_this : (b : ℕ) (sc : Names) → with_name b read_only sc b ≡ read_only
with_this b sc = ap (λ g. cond g read_only (sc b)) (eq-eqb b b refl)

module _ (scope : Scope) (zeros : List Value) (b : ℕ) where
  abbrev at_b : Execution → Value
  at_b x = named (root.Binder b) x.env

  bound_other : (c : ℕ) (u : Value) (env : Environment) → b ≢ c → named (root.Binder b) (bound c u env) ≡ named (root.Binder b) env
  bound_other c u env ne = get_or-set_other env.binders c b u (word (pos 0)) ne

  fresh_other : (sc : Names) (c : ℕ) → sc b ≡ read_only → sc c ≡ out_of_scope → b ≢ c
  fresh_other sc c h f e = cc (sym h ∙ ap sc e ∙ f)

  still_read : (sc : Names) (c : ℕ) (u : Use) → sc b ≡ read_only → sc c ≡ out_of_scope → with_name c u sc b ≡ read_only
  still_read sc c u h f = pick (b == c) (λ e. fresh_other sc c h f (eqb-true b c e))
    where
      pick : (g : Bool) → (g ≡ true → ⊥) → cond g u (sc b) ≡ read_only
      pick true no' = absurd (no' refl)
      pick false no' = h

  read_after : (s : Stmt) (sc : Names) → IsTypedStmt scope sc s → sc b ≡ read_only → names_after s sc b ≡ read_only
  read_after (bind c e) sc f h = still_read sc c read_only h f.0.1
  read_after (local c) sc f h = still_read sc c writable h f.1
  read_after (set p e) sc f h = h
  read_after (copy p q) sc f h = h
  read_after (branch e m n) sc f h = h
  read_after (loop c n ss) sc f h = h
  read_after (emit k e) sc f h = h

  stored_other : (sc : Names) (p : Place) (u : Value) (env : Environment) → sc b ≡ read_only → IsWritable sc p → named (root.Binder b) (with_place p u env) ≡ named (root.Binder b) env
  stored_other sc (place root.Param ss) u env r h = absurd h
  stored_other sc (place (root.Binder c) ss) u env r h = bound_other c _ env (λ e. cc (sym r ∙ ap sc e ∙ h))
  stored_other sc (place (root.State k) ss) u env r h = refl

  either_keeps : (g : Bool) (x y z : Execution) → at_b y ≡ at_b x → at_b z ≡ at_b x → at_b (cond g y z) ≡ at_b x
  either_keeps true x y z p q = p
  either_keeps false x y z p q = q

  turns_keep : (n : ℕ) (f : ℕ → Execution → Execution) (x : Execution) → ((i : ℕ) (y : Execution) → at_b (f i y) ≡ at_b y) → at_b (in_turn n f x) ≡ at_b x
  turns_keep zero f x h = refl
  turns_keep (suc n) f x h = h n (in_turn n f x) ∙ turns_keep n f x h

  mutual
    pub one_keeps : (s : Stmt) (sc : Names) (x : Execution) → IsTypedStmt scope sc s → sc b ≡ read_only → at_b (after_stmt zeros s x) ≡ at_b x
    one_keeps (bind c e) sc x f h = bound_other c _ x.env (fresh_other sc c h f.0.1)
    one_keeps (local c) sc x f h = bound_other c _ x.env (fresh_other sc c h f.1)
    one_keeps (set p e) sc x f h = stored_other sc p _ x.env h f.0
    one_keeps (copy p q) sc x f h = stored_other sc p _ x.env h f.0
    one_keeps (branch e a c) sc x f h = either_keeps (is_true (num (expr_value x.env e))) x (after_stmts zeros a x) (after_stmts zeros c x) (keeps a sc x f.1 h) (keeps c sc x f.2 h)
    one_keeps (loop c n ss) sc x f h =
        turns_keep n (λ i s. after_stmts zeros ss (with_env s (bound c (word (pos i)) s.env))) x
        (λ i y. keeps ss (with_name c read_only sc) (with_env y (bound c (word (pos i)) y.env)) f.4 (still_read sc c read_only h f.0.1) ∙ bound_other c (word (pos i)) y.env (fresh_other sc c h f.0.1))
    one_keeps (emit k e) sc x f h = refl

    pub keeps : (ss : Stmts) (sc : Names) (x : Execution) → AreTypedStmts scope sc ss → sc b ≡ read_only → at_b (after_stmts zeros ss x) ≡ at_b x
    keeps no_stmts sc x f h = refl
    keeps (stmt s ss) sc x f h = keeps ss (names_after s sc) (after_stmt zeros s x) f.1 (read_after s sc f.0 h) ∙ one_keeps s sc x f.0 h

-- ---- the message

module _ (scope : Scope) (zeros : List Value) where
  stored_message : (sc : Names) (p : Place) (u : Value) (env : Environment) → IsWritable sc p → (with_place p u env).message ≡ env.message
  stored_message sc (place root.Param ss) u env h = absurd h
  stored_message sc (place (root.Binder c) ss) u env h = refl
  stored_message sc (place (root.State k) ss) u env h = refl

  either_message : (g : Bool) (m : Value) (y z : Execution) → y.env.message ≡ m → z.env.message ≡ m → (cond g y z).env.message ≡ m
  either_message true m y z p q = p
  either_message false m y z p q = q

  turns_message : (n : ℕ) (f : ℕ → Execution → Execution) (x : Execution) → ((i : ℕ) (y : Execution) → (f i y).env.message ≡ y.env.message) → (in_turn n f x).env.message ≡ x.env.message
  turns_message zero f x h = refl
  turns_message (suc n) f x h = h n (in_turn n f x) ∙ turns_message n f x h

  mutual
    one_message : (s : Stmt) (sc : Names) (x : Execution) → IsTypedStmt scope sc s → (after_stmt zeros s x).env.message ≡ x.env.message
    one_message (bind c e) sc x f = refl
    one_message (local c) sc x f = refl
    one_message (set p e) sc x f = stored_message sc p _ x.env f.0
    one_message (copy p q) sc x f = stored_message sc p _ x.env f.0
    one_message (branch e a c) sc x f = either_message (is_true (num (expr_value x.env e))) x.env.message (after_stmts zeros a x) (after_stmts zeros c x) (all_message a sc x f.1) (all_message c sc x f.2)
    one_message (loop c n ss) sc x f =
        turns_message n (λ i s. after_stmts zeros ss (with_env s (bound c (word (pos i)) s.env))) x (λ i y. all_message ss (with_name c read_only sc) (with_env y (bound c (word (pos i)) y.env)) f.4)
    one_message (emit k e) sc x f = refl

    pub all_message : (ss : Stmts) (sc : Names) (x : Execution) → AreTypedStmts scope sc ss → (after_stmts zeros ss x).env.message ≡ x.env.message
    all_message no_stmts sc x f = refl
    all_message (stmt s ss) sc x f = all_message ss (names_after s sc) (after_stmt zeros s x) f.1 ∙ one_message s sc x f.0
