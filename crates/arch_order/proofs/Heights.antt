-- How deep the parts of a linked file that lies in a text are nested, and how many names they bind.
use Rattle.std.proofs.Common.{◌≡◌, ℕ, suc, ◌+◌, ◌≤◌, List, [], ◌∷◌, ◌++◌, length, None, refl, arith, length-append}
use Rattle.tower_syntax.specs.declared.named.Target.{Target}
use Rattle.tower_syntax.specs.RawTree.{Id, RawPlace, root, get, index, RawExpr, truth, read, lit, un, bin, choose, cast, RawStmt, bind, local, set, copy, branch, loop, emit, RawStmts, no_stmts, stmt}
use Rattle.arch_names.specs.declared.names.Thing.{Thing}
use Rattle.arch_names.specs.declared.names.Scope.{Scope}
use Rattle.arch_names.specs.Names.{Find}
use Rattle.arch_names.specs.Site.{Site}
use Rattle.arch_names.specs.Sites.{Around, seen, past, with_name, after, bound_by, bound_by_all}
use Rattle.arch_names.specs.Linked.{linked_place, linked_expr, linked_stmt, linked_all}
use Rattle.arch_names.specs.Written.{in_expr, in_stmt, in_stmts}
use Rattle.arch_types.specs.Body.{height, place_height}
use Rattle.arch_types.specs.Numbered.{nested, nested_all}
use Rattle.arch_types.specs.Numbered.{bound_by as linked_bound_by, bound_by_all as linked_bound_by_all}
use Rattle.arch_order.proofs.InText.{PlaceLies, ExprLies, StmtLies, StmtsLie}
use Rattle.arch_order.proofs.InOrder.{Between, stmts_in}
use Rattle.arch_order.proofs.Meant.{type_nested}

module _ (m : Site → Target) (file : Find Thing) (known : Find Target) where
  mutual
    pub place_nested : (p : RawPlace Id) (n a b : ℕ) → PlaceLies n p a b → place_height (linked_place m file known p) + n ≤ 257
    place_nested (root u) n a b h = omega (arith, h.2)
    place_nested (get at p f) n a b h = let k = place_nested p (suc n) (at + 1) h.1.0 h.1.1 in omega (arith, k)
    place_nested (index at p e) n a b h =
        let k = place_nested p (suc n) (at + 1) h.1.0 h.1.1 in
        let l = expr_nested e (suc n) h.1.0 h.1.2.0 h.1.2.1 in
        omega (arith, k, l)

    pub expr_nested : (e : RawExpr Id) (n a b : ℕ) → ExprLies n e a b → height (linked_expr m file known e) + n ≤ 257
    expr_nested (truth at v) n a b h = omega (arith, h.2)
    expr_nested (read p) n a b h = place_nested p n a b h
    expr_nested (lit at s z) n a b h = omega (arith, h.0.2)
    expr_nested (un at op x) n a b h = let k = expr_nested x (suc n) (at + 1) h.1.0 h.1.1 in omega (arith, k)
    expr_nested (bin at op x y) n a b h =
        let k = expr_nested x (suc n) (at + 1) h.1.0 h.1.1 in
        let l = expr_nested y (suc n) h.1.0 h.1.2.0 h.1.2.1 in
        omega (arith, k, l)
    expr_nested (choose at x y z) n a b h =
        let k = expr_nested x (suc n) (at + 1) h.1.0 h.1.1 in
        let l = expr_nested y (suc n) h.1.0 h.1.2.0 h.1.2.1 in
        let j = expr_nested z (suc n) h.1.2.0 h.1.2.2.0 h.1.2.2.1 in
        omega (arith, k, l, j)
    expr_nested (cast at t x) n a b h = let k = expr_nested x (suc n) h.1.0 h.1.2.0 h.1.2.1 in omega (arith, k)

module _ (m : Site → Target) (a : Around) where
  mutual
    pub stmt_nested : (t : RawStmt Id) (s : Scope) (n from to : ℕ) → StmtLies n t from to → nested (linked_stmt m a s t) + n ≤ 257
    stmt_nested (bind at x e) s n from to h = let k = expr_nested m a.file (seen a s) e (suc n) h.1.0 h.1.2.0 h.1.2.1 in omega (arith, k)
    stmt_nested (local at x t) s n from to h = let k = type_nested m a.file None t (suc n) h.1.0 h.1.2.0 h.1.2.1 in omega (arith, k)
    stmt_nested (set at p e) s n from to h =
        let k = place_nested m a.file (seen a s) p (suc n) (at + 1) h.1.0 h.1.1 in
        let l = expr_nested m a.file (seen a s) e (suc n) h.1.0 h.1.2.0 h.1.2.1 in
        omega (arith, k, l)
    stmt_nested (copy at p q) s n from to h =
        let k = place_nested m a.file (seen a s) p (suc n) (at + 1) h.1.0 h.1.1 in
        let l = place_nested m a.file (seen a s) q (suc n) h.1.0 h.1.2.0 h.1.2.1 in
        omega (arith, k, l)
    stmt_nested (branch at e then_at ss else_at ts) s n from to h =
        let k = expr_nested m a.file (seen a s) e (suc n) (at + 1) h.1.0 h.1.1 in
        let l = stmts_nested ss s (suc (suc n)) (then_at + 1) h.1.2.0 h.1.2.1.1 in
        let j = stmts_nested ts (past s (bound_by_all ss)) (suc (suc n)) (else_at + 1) h.1.2.2.0 h.1.2.2.1.1 in
        omega (arith, k, l, j)
    stmt_nested (loop at x k body) s n from to h = let l = stmts_nested body (with_name s x) (suc n) h.1.2.0 to h.1.2.2 in omega (arith, l)
    stmt_nested (emit at u e) s n from to h = let k = expr_nested m a.file (seen a s) e (suc n) h.1.0 h.1.2.0 h.1.2.1 in omega (arith, k)

    pub stmts_nested : (ts : RawStmts Id) (s : Scope) (n from to : ℕ) → StmtsLie n ts from to → nested_all (linked_all m a s ts) + n ≤ 257
    stmts_nested no_stmts s n from to h = omega (arith, h.1)
    stmts_nested (stmt t ts) s n from to h =
        let k = stmt_nested t s n from h.0 h.1 in
        let l = stmts_nested ts (after s t) n h.0 to h.2 in
        omega (arith, k, l)

  -- linking keeps how many names are bound
  mutual
    pub bound_linked : (t : RawStmt Id) (s : Scope) → linked_bound_by (linked_stmt m a s t) ≡ bound_by t
    bound_linked (bind at x e) s = refl
    bound_linked (local at x t) s = refl
    bound_linked (set at p e) s = refl
    bound_linked (copy at p q) s = refl
    bound_linked (branch at e then_at ss else_at ts) s = λ i. all_bound_linked ss s i + all_bound_linked ts (past s (bound_by_all ss)) i
    bound_linked (loop at x k body) s = let l = all_bound_linked body (with_name s x) in omega (arith, l)
    bound_linked (emit at u e) s = refl

    pub all_bound_linked : (ts : RawStmts Id) (s : Scope) → linked_bound_by_all (linked_all m a s ts) ≡ bound_by_all ts
    all_bound_linked no_stmts s = refl
    all_bound_linked (stmt t ts) s = λ i. bound_linked t s i + all_bound_linked ts (after s t) i

-- each name that is bound is written
mutual
  bound_written : (t : RawStmt Id) → bound_by t ≤ length (in_stmt t)
  bound_written (bind at x e) = omega arith
  bound_written (local at x t) = omega arith
  bound_written (set at p e) = omega arith
  bound_written (copy at p q) = omega arith
  bound_written (branch at e then_at ss else_at ts) =
      let k = all_bound_written ss in
      let l = all_bound_written ts in
      omega (arith, k, l, length-append (in_expr e ++ in_stmts ss) (in_stmts ts), length-append (in_expr e) (in_stmts ss))
  bound_written (loop at x k body) = let l = all_bound_written body in omega (arith, l)
  bound_written (emit at u e) = omega arith

  all_bound_written : (ts : RawStmts Id) → bound_by_all ts ≤ length (in_stmts ts)
  all_bound_written no_stmts = omega arith
  all_bound_written (stmt t ts) =
      let k = bound_written t in
      let l = all_bound_written ts in
      omega (arith, k, l, length-append (in_stmt t) (in_stmts ts))

many_between : (ns : List ℕ) (a b : ℕ) → Between ns a b → a + length ns ≤ b
many_between [] a b t = omega (arith, t)
many_between (n ∷ ns) a b t = let k = many_between ns (n + 1) b t.1 in omega (arith, t.0, k)

-- statements bind no more names than they have bytes
pub bound_between : (ts : RawStmts Id) (n from to : ℕ) → StmtsLie n ts from to → bound_by_all ts ≤ to
bound_between ts n from to h =
    let k = all_bound_written ts in
    let l = many_between (in_stmts ts) from to (stmts_in ts n from to h) in
    omega (arith, k, l)
