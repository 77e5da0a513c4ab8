-- The uses in the callbacks of a linked file that lies in a text are of names in scope.
use Rattle.std.proofs.Common.{◌≡◌, ℕ, suc, ◌+◌, ◌++◌, Bool, true, false, cond, eqb, Option, Some, None, sym, ap, subst, arith}
use Rattle.std.specs.Option.{option_or}
use Rattle.std.proofs.lemmas.Bool.{eq-eqb}
use Rattle.tower_types.specs.Ty.{Name}
use Rattle.tower_syntax.specs.declared.named.Target.{Target}
use Rattle.tower_syntax.specs.declared.named.Target.TheVariants as target
use Rattle.tower_syntax.specs.RawTree.{Id, RawType, RawPlace, root, get, index, RawExpr, truth, read, lit, un, bin, choose, cast, RawStmt, bind, local, set, copy, branch, loop, emit, RawStmts, no_stmts, stmt}
use Rattle.tower_syntax.specs.Typed.{Use, read_only, writable, IsInScope}
use Rattle.arch_names.specs.declared.names.Declared.{Declared}
use Rattle.arch_names.specs.declared.names.Thing.{Thing}
use Rattle.arch_names.specs.declared.names.Scope.{Scope}
use Rattle.arch_names.specs.Names.{Find, find, same}
use Rattle.arch_names.specs.Site.{Site}
use Rattle.arch_names.specs.Sites.{Around, seen, past, with_name, after, bound_by_all, type_sites, place_sites, expr_sites, stmt_sites, all_sites, name_site}
use Rattle.arch_names.specs.Linked.{linked_type, linked_place, linked_expr, linked_stmt, linked_all}
use Rattle.arch_types.specs.Numbered.{Counts, IsSeen, IsEmitter, naming, SeesPlace, Sees, SeesStmt, SeesAll, IsDeclaredType}
use Rattle.arch_types.specs.Numbered.{past as past_counts, after as after_counts}
use Rattle.arch_order.proofs.Lists.{AllOf, all_both, all_left, all_right, all_more, looked_up}
use Rattle.arch_order.proofs.InText.{TypeLies, PlaceLies, ExprLies, StmtLies, StmtsLie}
use Rattle.arch_order.proofs.Meant.{IsMeant, RecordsFit, type_written, type_nested}
use Rattle.arch_order.proofs.Heights.{all_bound_linked}

-- what is found may be used
abbrev pub StatesFit : Counts → Find Target → Type 0
StatesFit c known = (name : Name) (d : Declared Target) → known name ≡ Some d → IsSeen c d.what

abbrev pub EmittersFit : Counts → Find Target → Type 0
EmittersFit c emitters = (name : Name) (d : Declared Target) → emitters name ≡ Some d → IsEmitter c d.what

-- one name more leaves those in scope
cond_in_scope : (b : Bool) (u v : Use) → IsInScope u → IsInScope v → IsInScope (cond b u v)
cond_in_scope true u v h k = h
cond_in_scope false u v h k = k

still_seen : (c : Counts) (u : Use) (t : Target) → IsInScope u → IsSeen c t → IsSeen (naming c u) t
still_seen c u target.Param h k = tt
still_seen c u (target.Binder b) h k = cond_in_scope (eqb b c.bound) u (c.names b) h k
still_seen c u (target.State b) h k = k
still_seen c u (target.Record b) h k = absurd k
still_seen c u (target.Source b) h k = absurd k
still_seen c u (target.Channel b) h k = absurd k
still_seen c u (target.Emitter b) h k = absurd k

past_seen : (c : Counts) (n : ℕ) (t : Target) → IsSeen c t → IsSeen (past_counts c n) t
past_seen c n target.Param k = tt
past_seen c n (target.Binder b) k = k
past_seen c n (target.State b) k = k
past_seen c n (target.Record b) k = absurd k
past_seen c n (target.Source b) k = absurd k
past_seen c n (target.Channel b) k = absurd k
past_seen c n (target.Emitter b) k = absurd k

new_seen : (c : Counts) (u : Use) (b : ℕ) → b ≡ c.bound → IsInScope u → IsSeen (naming c u) (target.Binder b)
new_seen c u b e h = subst (λ x. IsInScope (cond x u (c.names b))) (sym (eq-eqb b c.bound e)) h

-- what a callback sees is what its scope has
pub record Fits (a : Around) (s : Scope) (c : Counts) : Type 0 where
  pub records : RecordsFit c.records a.file
  pub states : StatesFit c a.states
  pub emitters : EmittersFit c a.emitters
  pub names : AllOf (λ e. IsSeen c e.1.what) s.names
  pub binders : s.binders ≡ c.bound

named : (a : Around) (s : Scope) (c : Counts) (x : Id) (u : Use) → IsInScope u → Fits a s c → Fits a (with_name s x) (naming c u)
named a s c x u h f = record {
  records = f.records;
  states = λ name d e. still_seen c u d.what h (f.states name d e);
  emitters = f.emitters;
  names = all_both (λ e. IsSeen (naming c u) e.1.what) s.names _ (all_more (λ e. IsSeen c e.1.what) (λ e. IsSeen (naming c u) e.1.what) (λ e k. still_seen c u e.1.what h k) s.names f.names) (new_seen c u s.binders f.binders h, tt);
  binders = ap (λ n. n + 1) f.binders;
}

-- the same names, with more bound
more_bound : (a : Around) (s : Scope) (c : Counts) (n k : ℕ) → n ≡ c.bound + k → Fits a s c → Fits a (record { names = s.names; binders = n }) (past_counts c k)
more_bound a s c n k e f = record {
  records = f.records;
  states = λ name d e. past_seen c k d.what (f.states name d e);
  emitters = f.emitters;
  names = all_more (λ e. IsSeen c e.1.what) (λ e. IsSeen (past_counts c k) e.1.what) (λ e l. past_seen c k e.1.what l) s.names f.names;
  binders = e;
}

none_bound : (a : Around) (s : Scope) (c : Counts) → Fits a s c → Fits a s (past_counts c 0)
none_bound a s c f = more_bound a s c s.binders 0 (omega (arith, f.binders)) f

-- a state, or else a name in scope
known_by : (s : Scope) (c : Counts) (name : Name) (d : Declared Target) (o : Option (Declared Target)) → AllOf (λ e. IsSeen c e.1.what) s.names → ((x : Declared Target) → o ≡ Some x → IsSeen c x.what) → option_or o (find s.names name) ≡ Some d → IsSeen c d.what
known_by s c name d None h k e = looked_up (λ d. IsSeen c d.what) (same name) s.names d h e
known_by s c name d (Some x) h k e = k d e

known : (a : Around) (s : Scope) (c : Counts) → Fits a s c → StatesFit c (seen a s)
known a s c f name d e = known_by s c name d (a.states name) f.names (λ x e. f.states name x e) e

-- a type inside a list
pub declared : (m : Site → Target) (file : Find Thing) (r : ℕ) → RecordsFit r file → (t : RawType Id) (n a b : ℕ) → TypeLies (suc n) t a b → AllOf (IsMeant m) (type_sites file None t) → IsDeclaredType r (linked_type m file None t)
declared m file r f t n a b h u = (
  type_written m file r f t (suc n) a b h u,
  (let k = type_nested m file None t (suc n) a b h in omega (arith, k)),
)

module _ (m : Site → Target) (file : Find Thing) (c : Counts) (records : RecordsFit c.records file) (known : Find Target) (fits : StatesFit c known) where
  -- what a use in a place refers to
  root_sees : (u : Id) → IsMeant m (name_site known u) → IsSeen c (m (name_site known u))
  root_sees u h = let k = h tt in subst (IsSeen c) k.2 (fits u.name k.0 k.1)

  mutual
    place_sees : (p : RawPlace Id) (n a b : ℕ) → PlaceLies n p a b → AllOf (IsMeant m) (place_sites file known p) → SeesPlace c (linked_place m file known p)
    place_sees (root u) n a b h l = root_sees u l.0
    place_sees (get at p f) n a b h l = place_sees p (suc n) (at + 1) h.1.0 h.1.1 l
    place_sees (index at p e) n a b h l = (
      place_sees p (suc n) (at + 1) h.1.0 h.1.1 (all_left (IsMeant m) (place_sites file known p) (expr_sites file known e) l),
      expr_sees e (suc n) h.1.0 h.1.2.0 h.1.2.1 (all_right (IsMeant m) (place_sites file known p) (expr_sites file known e) l),
    )

    expr_sees : (e : RawExpr Id) (n a b : ℕ) → ExprLies n e a b → AllOf (IsMeant m) (expr_sites file known e) → Sees c (linked_expr m file known e)
    expr_sees (truth at v) n a b h l = tt
    expr_sees (read p) n a b h l = place_sees p n a b h l
    expr_sees (lit at s z) n a b h l = h.1
    expr_sees (un at op x) n a b h l = expr_sees x (suc n) (at + 1) h.1.0 h.1.1 l
    expr_sees (bin at op x y) n a b h l = (
      expr_sees x (suc n) (at + 1) h.1.0 h.1.1 (all_left (IsMeant m) (expr_sites file known x) (expr_sites file known y) l),
      expr_sees y (suc n) h.1.0 h.1.2.0 h.1.2.1 (all_right (IsMeant m) (expr_sites file known x) (expr_sites file known y) l),
    )
    expr_sees (choose at x y z) n a b h l =
        let k = all_left (IsMeant m) (expr_sites file known x ++ expr_sites file known y) (expr_sites file known z) l in (
          expr_sees x (suc n) (at + 1) h.1.0 h.1.1 (all_left (IsMeant m) (expr_sites file known x) (expr_sites file known y) k),
          expr_sees y (suc n) h.1.0 h.1.2.0 h.1.2.1 (all_right (IsMeant m) (expr_sites file known x) (expr_sites file known y) k),
          expr_sees z (suc n) h.1.2.0 h.1.2.2.0 h.1.2.2.1 (all_right (IsMeant m) (expr_sites file known x ++ expr_sites file known y) (expr_sites file known z) l),
        )
    expr_sees (cast at t x) n a b h l = (
      declared m file c.records records t n (at + 1) h.1.0 h.1.1 (all_left (IsMeant m) (type_sites file None t) (expr_sites file known x) l),
      expr_sees x (suc n) h.1.0 h.1.2.0 h.1.2.1 (all_right (IsMeant m) (type_sites file None t) (expr_sites file known x) l),
    )

module _ (m : Site → Target) (a : Around) where
  fits_after : (t : RawStmt Id) (s : Scope) (c : Counts) → Fits a s c → Fits a (after s t) (after_counts c (linked_stmt m a s t))
  fits_after (bind at x e) s c f = named a s c x read_only tt f
  fits_after (local at x t) s c f = named a s c x writable tt f
  fits_after (set at p e) s c f = none_bound a s c f
  fits_after (copy at p q) s c f = none_bound a s c f
  fits_after (branch at e then_at ss else_at ts) s c f = more_bound a s c (s.binders + bound_by_all ss + bound_by_all ts) _ (omega (arith, f.binders, all_bound_linked m a ss s, all_bound_linked m a ts (past s (bound_by_all ss)))) f
  fits_after (loop at x k body) s c f = more_bound a s c (s.binders + (1 + bound_by_all body)) _ (omega (arith, f.binders, all_bound_linked m a body (with_name s x))) f
  fits_after (emit at u e) s c f = none_bound a s c f

  mutual
    stmt_sees : (t : RawStmt Id) (s : Scope) (c : Counts) (n from to : ℕ) → Fits a s c → StmtLies n t from to → AllOf (IsMeant m) (stmt_sites a s t) → SeesStmt c (linked_stmt m a s t)
    stmt_sees (bind at x e) s c n from to f h l = expr_sees m a.file c f.records (seen a s) (known a s c f) e (suc n) h.1.0 h.1.2.0 h.1.2.1 l.1
    stmt_sees (local at x t) s c n from to f h l = declared m a.file c.records f.records t n h.1.0 h.1.2.0 h.1.2.1 l.1
    stmt_sees (set at p e) s c n from to f h l = (
      place_sees m a.file c f.records (seen a s) (known a s c f) p (suc n) (at + 1) h.1.0 h.1.1 (all_left (IsMeant m) (place_sites a.file (seen a s) p) (expr_sites a.file (seen a s) e) l),
      expr_sees m a.file c f.records (seen a s) (known a s c f) e (suc n) h.1.0 h.1.2.0 h.1.2.1 (all_right (IsMeant m) (place_sites a.file (seen a s) p) (expr_sites a.file (seen a s) e) l),
    )
    stmt_sees (copy at p q) s c n from to f h l = (
      place_sees m a.file c f.records (seen a s) (known a s c f) p (suc n) (at + 1) h.1.0 h.1.1 (all_left (IsMeant m) (place_sites a.file (seen a s) p) (place_sites a.file (seen a s) q) l),
      place_sees m a.file c f.records (seen a s) (known a s c f) q (suc n) h.1.0 h.1.2.0 h.1.2.1 (all_right (IsMeant m) (place_sites a.file (seen a s) p) (place_sites a.file (seen a s) q) l),
    )
    stmt_sees (branch at e then_at ss else_at ts) s c n from to f h l =
        let z = past s (bound_by_all ss) in
        let k = all_left (IsMeant m) (expr_sites a.file (seen a s) e ++ all_sites a s ss) (all_sites a z ts) l in (
          expr_sees m a.file c f.records (seen a s) (known a s c f) e (suc n) (at + 1) h.1.0 h.1.1 (all_left (IsMeant m) (expr_sites a.file (seen a s) e) (all_sites a s ss) k),
          stmts_see ss s c (suc (suc n)) (then_at + 1) h.1.2.0 f h.1.2.1.1 (all_right (IsMeant m) (expr_sites a.file (seen a s) e) (all_sites a s ss) k),
          stmts_see ts z _ (suc (suc n)) (else_at + 1) h.1.2.2.0 (more_bound a s c (s.binders + bound_by_all ss) _ (omega (arith, f.binders, all_bound_linked m a ss s)) f) h.1.2.2.1.1 (all_right (IsMeant m) (expr_sites a.file (seen a s) e ++ all_sites a s ss) (all_sites a z ts) l),
        )
    stmt_sees (loop at x k body) s c n from to f h l = (
      h.1.2.1.1,
      h.1.2.1.2,
      stmts_see body (with_name s x) (naming c read_only) (suc n) h.1.2.0 to (named a s c x read_only tt f) h.1.2.2 l.1,
    )
    stmt_sees (emit at u e) s c n from to f h l =
        let k = l.0 tt in
        (subst (IsEmitter c) k.2 (f.emitters u.name k.0 k.1), expr_sees m a.file c f.records (seen a s) (known a s c f) e (suc n) h.1.0 h.1.2.0 h.1.2.1 l.1)

    pub stmts_see : (ts : RawStmts Id) (s : Scope) (c : Counts) (n from to : ℕ) → Fits a s c → StmtsLie n ts from to → AllOf (IsMeant m) (all_sites a s ts) → SeesAll c (linked_all m a s ts)
    stmts_see no_stmts s c n from to f h l = tt
    stmts_see (stmt t ts) s c n from to f h l = (
      stmt_sees t s c n from h.0 f h.1 (all_left (IsMeant m) (stmt_sites a s t) (all_sites a (after s t) ts) l),
      stmts_see ts (after s t) _ n h.0 to (fits_after t s c f) h.2 (all_right (IsMeant m) (stmt_sites a s t) (all_sites a (after s t) ts) l),
    )
