-- How large a place, expression or statement is, by which the walk over it ends.
use Rattle.std.proofs.Common.{◌≡◌, ℕ, ◌+◌, ◌<◌, ◌≤◌, zero, suc, List, [], ◌∷◌, length, get_or, sym, ap, ◌∙◌, arith}
use Rattle.tower_types.specs.declared.scalar.UnOp.{UnOp}
use Rattle.tower_types.specs.declared.scalar.BinOp.{BinOp}
use Rattle.tower_syntax.specs.RawTree.{Link, RawPlace, root, get, index, RawExpr, truth, read, lit, un, bin, choose, cast, RawStmt, bind, local, set, copy, branch, loop, emit, RawStmts, no_stmts, stmt}
use Rattle.tower_syntax.specs.NamedView.{named_place_of, named_expr_of, named_stmt_of, all_named_stmts_of}
use Rattle.tower_syntax.specs.declared.raw.Id.{Id as IdValue}
use Rattle.tower_syntax.specs.declared.named.NamedType.{NamedType as TypeValue}
use Rattle.tower_syntax.specs.declared.named.NamedPlace.{NamedPlace as PlaceValue}
use Rattle.tower_syntax.specs.declared.named.NamedExpr.{NamedExpr as ExprValue}
use Rattle.tower_syntax.specs.declared.named.NamedExpr.TheVariants as expr
use Rattle.tower_syntax.specs.declared.named.NamedStmt.{NamedStmt as StmtValue}
use Rattle.tower_syntax.specs.declared.named.NamedStmt.TheVariants as stmt_value
use Rattle.tower_syntax.proofs.NamedViews.{named_expr_of-Read, named_expr_of-Un, named_expr_of-Bin, named_expr_of-Cond, named_expr_of-Cast, named_stmt_of-Branch, named_stmt_of-Loop}

abbrev mutual
  pub place_size : RawPlace Link → ℕ
  place_size (root u) = 0
  place_size (get at p f) = 1 + place_size p
  place_size (index at p e) = 1 + place_size p + expr_size e

  pub expr_size : RawExpr Link → ℕ
  expr_size (truth at b) = 0
  expr_size (read p) = 1 + place_size p
  expr_size (lit at t n) = 0
  expr_size (un at op x) = 1 + expr_size x
  expr_size (bin at op x y) = 1 + expr_size x + expr_size y
  expr_size (choose at c x y) = 1 + expr_size c + expr_size x + expr_size y
  expr_size (cast at t x) = 1 + expr_size x

abbrev pub P : PlaceValue → ℕ
P p = place_size (named_place_of p)

abbrev pub E : ExprValue → ℕ
E e = expr_size (named_expr_of e)

pub read_size : (e : ExprValue) (p : PlaceValue) → e ≡ expr.Read p → E e ≡ 1 + P p
read_size e p is = ap E is ∙ ap expr_size (named_expr_of-Read p)

pub un_size : (e : ExprValue) (at : ℕ) (op : UnOp) (a x : ExprValue) → e ≡ expr.Un at op a → x ≡ a → E e ≡ 1 + E x
un_size e at op a x is p = ap E is ∙ ap expr_size (named_expr_of-Un at op a) ∙ (λ i. 1 + E (sym p i))

pub bin_size : (e : ExprValue) (at : ℕ) (op : BinOp) (a b x y : ExprValue) → e ≡ expr.Bin at op a b → x ≡ a → y ≡ b → E e ≡ 1 + E x + E y
bin_size e at op a b x y is p q = ap E is ∙ ap expr_size (named_expr_of-Bin at op a b) ∙ (λ i. 1 + E (sym p i) + E (sym q i))

pub choose_size : (e : ExprValue) (at : ℕ) (c a b z x y : ExprValue) → e ≡ expr.Cond at c a b → z ≡ c → x ≡ a → y ≡ b → E e ≡ 1 + E z + E x + E y
choose_size e at c a b z x y is o p q = ap E is ∙ ap expr_size (named_expr_of-Cond at c a b) ∙ (λ i. 1 + E (sym o i) + E (sym p i) + E (sym q i))

pub cast_size : (e : ExprValue) (at : ℕ) (t : TypeValue) (a x : ExprValue) → e ≡ expr.Cast at t a → x ≡ a → E e ≡ 1 + E x
cast_size e at t a x is p = ap E is ∙ ap expr_size (named_expr_of-Cast at t a) ∙ (λ i. 1 + E (sym p i))

abbrev mutual
  pub stmt_size : RawStmt Link → ℕ
  stmt_size (bind at x e) = 0
  stmt_size (local at x t) = 0
  stmt_size (set at p e) = 0
  stmt_size (copy at p q) = 0
  stmt_size (branch at e then_at ss else_at ts) = 1 + all_size ss + all_size ts
  stmt_size (loop at x n body) = 1 + all_size body
  stmt_size (emit at u e) = 0

  pub all_size : RawStmts Link → ℕ
  all_size no_stmts = 0
  all_size (stmt t ts) = 1 + stmt_size t + all_size ts

abbrev pub S : StmtValue → ℕ
S t = stmt_size (named_stmt_of t)

abbrev pub A : List StmtValue → ℕ
A ts = all_size (all_named_stmts_of ts)

pub branch_size : (t : StmtValue) (at : ℕ) (e : ExprValue) (then_at : ℕ) (ss : List StmtValue) (else_at : ℕ) (ts xs ys : List StmtValue) → t ≡ stmt_value.Branch at e then_at ss else_at ts → xs ≡ ss → ys ≡ ts → S t ≡ 1 + A xs + A ys
branch_size t at e then_at ss else_at ts xs ys is p q = ap S is ∙ ap stmt_size (named_stmt_of-Branch at e then_at ss else_at ts) ∙ (λ i. 1 + A (sym p i) + A (sym q i))

pub loop_size : (t : StmtValue) (at : ℕ) (x : IdValue) (n : ℕ) (ss xs : List StmtValue) → t ≡ stmt_value.Loop at x n ss → xs ≡ ss → S t ≡ 1 + A xs
loop_size t at x n ss xs is p = ap S is ∙ ap stmt_size (named_stmt_of-Loop at x n ss) ∙ (λ i. 1 + A (sym p i))

-- y is the statement at i
pub all_size_at : (ts : List StmtValue) (i : ℕ) (y : StmtValue) → y ≡ get_or ts i y → i < length ts → S y + 1 ≤ A ts
all_size_at [] i y e l = absurd (omega arith)
all_size_at (t ∷ ts) zero y e l = let h : S y ≡ S t = ap S e in omega arith
all_size_at (t ∷ ts) (suc i) y e l = let h : S y + 1 ≤ A ts = all_size_at ts i y e (omega arith) in omega arith
