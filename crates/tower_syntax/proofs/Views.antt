-- What each variant of an accepted tree stands for.
use Rattle.std.proofs.Common.{◌≡◌, ◌∙◌, ap, sym, ℕ, ℤ, List}
use Rattle.tower_types.specs.declared.scalar.Scalar.{Scalar}
use Rattle.tower_types.specs.declared.scalar.BinOp.{BinOp}
use Rattle.tower_types.specs.declared.scalar.UnOp.{UnOp}
use Rattle.tower_syntax.specs.Tree.{Expr, lit, read, un, bin, choose, cast, Place, Stmt, bind, local, set, copy, branch, loop, emit}
use Rattle.tower_syntax.specs.View.{Step, expr_of, expr_step, step_step, place_of, place_step, stmt_of, stmt_step, all_stmts_of}
use Rattle.tower_syntax.specs.declared.body.Expr.{Expr as ExprValue}
use Rattle.tower_syntax.specs.declared.body.Expr.TheVariants as expr
use Rattle.tower_syntax.specs.declared.body.Place.{Place as PlaceValue}
use Rattle.tower_syntax.specs.declared.body.Stmt.{Stmt as StmtValue}
use Rattle.tower_syntax.specs.declared.body.Stmt.TheVariants as stmt
use Rattle.tower_syntax.specs.declared.body.Expr.TheOpen.{Expr-F}
use Rattle.tower_syntax.specs.declared.body.Expr.TheFolds.{fold-roll-Expr}
use Rattle.tower_syntax.specs.declared.body.Stmt.TheOpen.{Stmt-F}
use Rattle.tower_syntax.specs.declared.body.Stmt.TheFolds.{fold-roll-Stmt}

pub expr_of-Lit : (t : Scalar) (n : ℤ) → expr_of (expr.Lit t n) ≡ lit t n
expr_of-Lit t n = ap expr_of (sym (expr.rolls-Lit t n)) ∙ fold-roll-Expr Expr Step Place expr_step step_step place_step (Expr-F.Lit t n)

pub expr_of-Read : (p : PlaceValue) → expr_of (expr.Read p) ≡ read (place_of p)
expr_of-Read p = ap expr_of (sym (expr.rolls-Read p)) ∙ fold-roll-Expr Expr Step Place expr_step step_step place_step (Expr-F.Read p)

pub expr_of-Un : (op : UnOp) (t : Scalar) (a : ExprValue) → expr_of (expr.Un op t a) ≡ un op t (expr_of a)
expr_of-Un op t a = ap expr_of (sym (expr.rolls-Un op t a)) ∙ fold-roll-Expr Expr Step Place expr_step step_step place_step (Expr-F.Un op t a)

pub expr_of-Bin : (op : BinOp) (t : Scalar) (a b : ExprValue) → expr_of (expr.Bin op t a b) ≡ bin op t (expr_of a) (expr_of b)
expr_of-Bin op t a b = ap expr_of (sym (expr.rolls-Bin op t a b)) ∙ fold-roll-Expr Expr Step Place expr_step step_step place_step (Expr-F.Bin op t a b)

pub expr_of-Cond : (c a b : ExprValue) → expr_of (expr.Cond c a b) ≡ choose (expr_of c) (expr_of a) (expr_of b)
expr_of-Cond c a b = ap expr_of (sym (expr.rolls-Cond c a b)) ∙ fold-roll-Expr Expr Step Place expr_step step_step place_step (Expr-F.Cond c a b)

pub expr_of-Cast : (t : Scalar) (a : ExprValue) → expr_of (expr.Cast t a) ≡ cast t (expr_of a)
expr_of-Cast t a = ap expr_of (sym (expr.rolls-Cast t a)) ∙ fold-roll-Expr Expr Step Place expr_step step_step place_step (Expr-F.Cast t a)

pub stmt_of-Bind : (b : ℕ) (e : ExprValue) → stmt_of (stmt.Bind b e) ≡ bind b (expr_of e)
stmt_of-Bind b e = ap stmt_of (sym (stmt.rolls-Bind b e)) ∙ fold-roll-Stmt Stmt stmt_step (Stmt-F.Bind b e)

pub stmt_of-Local : (b : ℕ) → stmt_of (stmt.Local b) ≡ local b
stmt_of-Local b = ap stmt_of (sym (stmt.rolls-Local b)) ∙ fold-roll-Stmt Stmt stmt_step (Stmt-F.Local b)

pub stmt_of-Set : (p : PlaceValue) (e : ExprValue) → stmt_of (stmt.Set p e) ≡ set (place_of p) (expr_of e)
stmt_of-Set p e = ap stmt_of (sym (stmt.rolls-Set p e)) ∙ fold-roll-Stmt Stmt stmt_step (Stmt-F.Set p e)

pub stmt_of-Copy : (p q : PlaceValue) → stmt_of (stmt.Copy p q) ≡ copy (place_of p) (place_of q)
stmt_of-Copy p q = ap stmt_of (sym (stmt.rolls-Copy p q)) ∙ fold-roll-Stmt Stmt stmt_step (Stmt-F.Copy p q)

pub stmt_of-Branch : (e : ExprValue) (ss ts : List StmtValue) → stmt_of (stmt.Branch e ss ts) ≡ branch (expr_of e) (all_stmts_of ss) (all_stmts_of ts)
stmt_of-Branch e ss ts = ap stmt_of (sym (stmt.rolls-Branch e ss ts)) ∙ fold-roll-Stmt Stmt stmt_step (Stmt-F.Branch e ss ts)

pub stmt_of-Loop : (b n : ℕ) (body : List StmtValue) → stmt_of (stmt.Loop b n body) ≡ loop b n (all_stmts_of body)
stmt_of-Loop b n body = ap stmt_of (sym (stmt.rolls-Loop b n body)) ∙ fold-roll-Stmt Stmt stmt_step (Stmt-F.Loop b n body)

pub stmt_of-Emit : (k : ℕ) (e : ExprValue) → stmt_of (stmt.Emit k e) ≡ emit k (expr_of e)
stmt_of-Emit k e = ap stmt_of (sym (stmt.rolls-Emit k e)) ∙ fold-roll-Stmt Stmt stmt_step (Stmt-F.Emit k e)
