-- The types of a system are the type nodes of its text, but for those that are scalars or stand inside others.
use Rattle.std.proofs.Common.{◌≡◌, ◌≤◌, ℕ, zero, suc, List, ◌++◌, refl, sym, subst, arith}
use Rattle.std.proofs.Math.Nat.{le-mul_of_pos_right, mul_comm}
use Rattle.tower_types.specs.declared.scalar.Scalar.{Scalar}
use Rattle.tower_types.specs.declared.scalar.Scalar.TheVariants as is
use Rattle.tower_types.specs.Ty.{Ty, Fields, scalar, Shape, one, many, shape_in, words}
use Rattle.tower_syntax.specs.RawTree.{Link, RawType, word, rec, array, RawPlace, root, get, index, RawExpr, truth, read, lit, un, bin, choose, cast, RawStmt, bind, local, set, copy, branch, loop, emit, RawStmts, no_stmts, stmt}
use Rattle.tower_syntax.specs.Tree.{Expr, Stmt, Stmts}
use Rattle.arch_types.specs.Typing.{Env, type_of, Path, Becomes, BecomesPlace}
use Rattle.arch_types.specs.Body.{with_loop, after, after_all, BecomesStmt, BecomesAll}
use Rattle.arch_types.specs.Numbered as numbered
use Rattle.arch_checks.specs.declared.widths.Measure.{Measure}
use Rattle.arch_checks.specs.declared.widths.Measure.TheVariants as measure
use Rattle.arch_checks.specs.Measured.{measured}
use Rattle.arch_checks.specs.TypeNodes.{nodes, in_place, in_expr, in_stmt, in_stmts}
use Rattle.arch_checks.proofs.Lists.{AllOf, both, front, back}

-- each array in it has elements
abbrev pub HasElements : RawType Link → Type 0
HasElements (word at s) = Unit {0}
HasElements (rec u) = Unit {0}
HasElements (array at n t) = (1 ≤ n) × HasElements t

pub has_elements : (records : ℕ) (t : RawType Link) → numbered.IsWrittenType records t → HasElements t
has_elements records (word at s) h = tt
has_elements records (rec u) h = tt
has_elements records (array at n t) h = (h.0, has_elements records t h.2)

many_more : (m : Measure) (n : ℕ) (s : Shape) → 1 ≤ n → measured m s ≤ measured m (many n s)
many_more measure.Depth n s h = omega arith
many_more measure.Words zero s h = absurd (omega (arith, h))
many_more measure.Words (suc n) s h = omega (arith, le-mul_of_pos_right {m = suc n} (words s) (omega arith), mul_comm (suc n) (words s))

scalar_is_one : (m : Measure) (s : Scalar) → measured m (one s) ≡ 1
scalar_is_one measure.Depth s = refl
scalar_is_one measure.Words s = refl

-- at most k, over the shapes of the records
module _ (m : Measure) (table : List Shape) (k : ℕ) (least : 1 ≤ k) where
  abbrev pub IsSmall : Ty → Type 0
  IsSmall t = measured m (shape_in table t) ≤ k

  abbrev pub AreSmall : Fields → Type 0
  AreSmall fields = AllOf (λ f. IsSmall f.1) fields

  abbrev pub Fit : List (RawType Link) → Type 0
  Fit ts = AllOf (λ t. IsSmall (type_of t)) ts

  pub scalar_small : (s : Scalar) → IsSmall (scalar s)
  scalar_small s = omega (arith, scalar_is_one m s, least)

  pub nodes_fit : (t : RawType Link) → HasElements t → IsSmall (type_of t) → Fit (nodes t)
  nodes_fit (word at s) e h = (h, tt)
  nodes_fit (rec u) e h = (h, tt)
  nodes_fit (array at n t) e h = (h, nodes_fit t e.1 (let l = many_more m n (shape_in table (type_of t)) e.0 in omega (arith, l, h)))

  pub node_small : (t : RawType Link) → Fit (nodes t) → IsSmall (type_of t)
  node_small (word at s) h = h.0
  node_small (rec u) h = h.0
  node_small (array at n t) h = h.0

  cast_fit : (t : RawType Link) (s : Scalar) → type_of t ≡ scalar s → Fit (nodes t)
  cast_fit (word at r) s e = (scalar_small r, tt)
  cast_fit (rec u) s e = cc
  cast_fit (array at n t) s e = cc

  -- ---- a cast in an expression is to a scalar

  mutual
    place_fit : (Γ : Env) (p : RawPlace Link) (t : Ty) (q : Path) → BecomesPlace Γ p t q → Fit (in_place p)
    place_fit Γ (root u) t q h = tt
    place_fit Γ (get at p name) t q h = place_fit Γ p _ _ h.3
    place_fit Γ (index at p e) t q h = both _ (in_place p) (in_expr e) (place_fit Γ p _ _ h.3) (expr_fit Γ e _ _ h.4)

    expr_fit : (Γ : Env) (e : RawExpr Link) (t : Ty) (x : Expr) → Becomes Γ e t x → Fit (in_expr e)
    expr_fit Γ (truth at b) t x h = tt
    expr_fit Γ (read p) t x h = place_fit Γ p _ _ h.1
    expr_fit Γ (lit at s n) t x h = tt
    expr_fit Γ (un at op a) t x h = expr_fit Γ a _ _ h.2
    expr_fit Γ (bin at op a b) t x h = both _ (in_expr a) (in_expr b) (expr_fit Γ a _ _ h.3) (expr_fit Γ b _ _ h.4)
    expr_fit Γ (choose at c a b) t x h = both _ (in_expr c ++ in_expr a) (in_expr b) (both _ (in_expr c) (in_expr a) (expr_fit Γ c _ _ h.4) (expr_fit Γ a _ _ h.5)) (expr_fit Γ b _ _ h.6)
    expr_fit Γ (cast at v a) t x h = both _ (nodes v) (in_expr a) (cast_fit v h.0 h.3) (expr_fit Γ a _ _ h.5)

  -- ---- the names that statements bind are small where the type nodes are, and the other way round

  mutual
    stmt_fit : (Γ : Env) (c : numbered.Counts) (s : RawStmt Link) (names : Fields) (t : Stmt) → BecomesStmt Γ s names t → numbered.SeesStmt c s → AreSmall names → Fit (in_stmt s)
    stmt_fit Γ c (bind at i e) names t h n small = expr_fit Γ e _ _ h.2
    stmt_fit Γ c (local at i v) names t h n small = nodes_fit v (has_elements c.records v n.0) (subst AreSmall h.0 small).0
    stmt_fit Γ c (set at p e) names t h n small = both _ (in_place p) (in_expr e) (place_fit Γ p _ _ h.3) (expr_fit Γ e _ _ h.5)
    stmt_fit Γ c (copy at p q) names t h n small = both _ (in_place p) (in_place q) (place_fit Γ p _ _ h.3) (place_fit Γ q _ _ h.5)
    stmt_fit Γ c (branch at e then_at a else_at b) names t h n small =
        let split = subst AreSmall h.8 small in
        both _ (in_expr e ++ in_stmts a) (in_stmts b)
        (both _ (in_expr e) (in_stmts a) (expr_fit Γ e _ _ h.5) (stmts_fit Γ c a h.1 h.3 h.6 n.1 (front _ h.1 h.2 split)))
        (stmts_fit (after_all Γ a) (numbered.past c (numbered.bound_by_all a)) b h.2 h.4 h.7 n.2 (back _ h.1 h.2 split))
    stmt_fit Γ c (loop at i times body) names t h n small = stmts_fit (with_loop Γ times) _ body h.0 h.1 h.2 n.2 (subst AreSmall h.3 small).1
    stmt_fit Γ c (emit at u e) names t h n small = expr_fit Γ e _ _ h.1

    pub stmts_fit : (Γ : Env) (c : numbered.Counts) (ss : RawStmts Link) (names : Fields) (ts : Stmts) → BecomesAll Γ ss names ts → numbered.SeesAll c ss → AreSmall names → Fit (in_stmts ss)
    stmts_fit Γ c no_stmts names ts h n small = tt
    stmts_fit Γ c (stmt s ss) names ts h n small =
        let split = subst AreSmall h.6 small in
        both _ (in_stmt s) (in_stmts ss) (stmt_fit Γ c s h.0 h.2 h.4 n.0 (front _ h.0 h.1 split)) (stmts_fit (after Γ s) (numbered.after c s) ss h.1 h.3 h.5 n.1 (back _ h.0 h.1 split))

  mutual
    stmt_small : (Γ : Env) (s : RawStmt Link) (names : Fields) (t : Stmt) → BecomesStmt Γ s names t → Fit (in_stmt s) → AreSmall names
    stmt_small Γ (bind at i e) names t h fit = subst AreSmall (sym h.3) (scalar_small h.0, tt)
    stmt_small Γ (local at i v) names t h fit = subst AreSmall (sym h.0) (node_small v fit, tt)
    stmt_small Γ (set at p e) names t h fit = subst AreSmall (sym h.6) tt
    stmt_small Γ (copy at p q) names t h fit = subst AreSmall (sym h.6) tt
    stmt_small Γ (branch at e then_at a else_at b) names t h fit =
        let first = front _ (in_expr e ++ in_stmts a) (in_stmts b) fit in
        subst AreSmall (sym h.8) (both _ h.1 h.2
        (stmts_small Γ a h.1 h.3 h.6 (back _ (in_expr e) (in_stmts a) first))
        (stmts_small (after_all Γ a) b h.2 h.4 h.7 (back _ (in_expr e ++ in_stmts a) (in_stmts b) fit)))
    stmt_small Γ (loop at i times body) names t h fit = subst AreSmall (sym h.3) (scalar_small (is.Ix times), stmts_small (with_loop Γ times) body h.0 h.1 h.2 fit)
    stmt_small Γ (emit at u e) names t h fit = subst AreSmall (sym h.2) tt

    pub stmts_small : (Γ : Env) (ss : RawStmts Link) (names : Fields) (ts : Stmts) → BecomesAll Γ ss names ts → Fit (in_stmts ss) → AreSmall names
    stmts_small Γ no_stmts names ts h fit = subst AreSmall (sym h.0) tt
    stmts_small Γ (stmt s ss) names ts h fit =
        subst AreSmall (sym h.6) (both _ h.0 h.1 (stmt_small Γ s h.0 h.2 h.4 (front _ (in_stmt s) (in_stmts ss) fit)) (stmts_small (after Γ s) ss h.1 h.3 h.5 (back _ (in_stmt s) (in_stmts ss) fit)))
