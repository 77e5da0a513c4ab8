-- What each variant of the named tree stands for.
use Rattle.std.proofs.Common.{◌≡◌, ◌∙◌, ap, sym, ℕ, ℤ, Bool, List}
use Rattle.tower_types.specs.declared.scalar.Scalar.{Scalar}
use Rattle.tower_types.specs.declared.scalar.BinOp.{BinOp}
use Rattle.tower_types.specs.declared.scalar.UnOp.{UnOp}
use Rattle.tower_syntax.specs.RawTree.{Link, RawType, word, rec, array, RawPlace, root, get, index, RawExpr, truth, read, lit, un, bin, choose, cast, RawStmt, bind, local, set, copy, branch, loop, emit}
use Rattle.tower_syntax.specs.RawView.{id_of}
use Rattle.tower_syntax.specs.NamedView.{link_of, named_type_of, named_type_step, named_place_of, named_place_step, named_expr_of, named_expr_step, named_stmt_of, named_stmt_step, all_named_stmts_of}
use Rattle.tower_syntax.specs.declared.raw.Id.{Id as IdValue}
use Rattle.tower_syntax.specs.declared.named.Link.{Link as LinkValue}
use Rattle.tower_syntax.specs.declared.named.NamedType.{NamedType as TypeValue}
use Rattle.tower_syntax.specs.declared.named.NamedType.TheVariants as ty
use Rattle.tower_syntax.specs.declared.named.NamedPlace.{NamedPlace as PlaceValue}
use Rattle.tower_syntax.specs.declared.named.NamedPlace.TheVariants as place
use Rattle.tower_syntax.specs.declared.named.NamedExpr.{NamedExpr as ExprValue}
use Rattle.tower_syntax.specs.declared.named.NamedExpr.TheVariants as expr
use Rattle.tower_syntax.specs.declared.named.NamedStmt.{NamedStmt as StmtValue}
use Rattle.tower_syntax.specs.declared.named.NamedStmt.TheVariants as stmt
use Rattle.tower_syntax.specs.declared.named.NamedType.TheOpen.{NamedType-F}
use Rattle.tower_syntax.specs.declared.named.NamedType.TheFolds.{fold-roll-NamedType}
use Rattle.tower_syntax.specs.declared.named.NamedExpr.TheOpen.{NamedPlace-F, NamedExpr-F}
use Rattle.tower_syntax.specs.declared.named.NamedExpr.TheFolds.{fold-roll-NamedPlace, fold-roll-NamedExpr}
use Rattle.tower_syntax.specs.declared.named.NamedStmt.TheOpen.{NamedStmt-F}
use Rattle.tower_syntax.specs.declared.named.NamedStmt.TheFolds.{fold-roll-NamedStmt}

pub named_type_of-Word : (at : ℕ) (s : Scalar) → named_type_of (ty.Word at s) ≡ word at s
named_type_of-Word at s = ap named_type_of (sym (ty.rolls-Word at s)) ∙ fold-roll-NamedType (RawType Link) named_type_step (NamedType-F.Word at s)

pub named_type_of-Rec : (u : LinkValue) → named_type_of (ty.Rec u) ≡ rec (link_of u)
named_type_of-Rec u = ap named_type_of (sym (ty.rolls-Rec u)) ∙ fold-roll-NamedType (RawType Link) named_type_step (NamedType-F.Rec u)

pub named_type_of-Array : (at n : ℕ) (t : TypeValue) → named_type_of (ty.Array at n t) ≡ array at n (named_type_of t)
named_type_of-Array at n t = ap named_type_of (sym (ty.rolls-Array at n t)) ∙ fold-roll-NamedType (RawType Link) named_type_step (NamedType-F.Array at n t)

pub named_place_of-Root : (u : LinkValue) → named_place_of (place.Root u) ≡ root (link_of u)
named_place_of-Root u = ap named_place_of (sym (place.rolls-Root u)) ∙ fold-roll-NamedPlace (RawExpr Link) (RawPlace Link) named_expr_step named_place_step (NamedPlace-F.Root u)

pub named_place_of-Get : (at : ℕ) (p : PlaceValue) (f : IdValue) → named_place_of (place.Get at p f) ≡ get at (named_place_of p) (id_of f)
named_place_of-Get at p f = ap named_place_of (sym (place.rolls-Get at p f)) ∙ fold-roll-NamedPlace (RawExpr Link) (RawPlace Link) named_expr_step named_place_step (NamedPlace-F.Get at p f)

pub named_place_of-At : (at : ℕ) (p : PlaceValue) (e : ExprValue) → named_place_of (place.At at p e) ≡ index at (named_place_of p) (named_expr_of e)
named_place_of-At at p e = ap named_place_of (sym (place.rolls-At at p e)) ∙ fold-roll-NamedPlace (RawExpr Link) (RawPlace Link) named_expr_step named_place_step (NamedPlace-F.At at p e)

pub named_expr_of-Truth : (at : ℕ) (b : Bool) → named_expr_of (expr.Truth at b) ≡ truth at b
named_expr_of-Truth at b = ap named_expr_of (sym (expr.rolls-Truth at b)) ∙ fold-roll-NamedExpr (RawExpr Link) (RawPlace Link) named_expr_step named_place_step (NamedExpr-F.Truth at b)

pub named_expr_of-Read : (p : PlaceValue) → named_expr_of (expr.Read p) ≡ read (named_place_of p)
named_expr_of-Read p = ap named_expr_of (sym (expr.rolls-Read p)) ∙ fold-roll-NamedExpr (RawExpr Link) (RawPlace Link) named_expr_step named_place_step (NamedExpr-F.Read p)

pub named_expr_of-Lit : (at : ℕ) (s : Scalar) (n : ℤ) → named_expr_of (expr.Lit at s n) ≡ lit at s n
named_expr_of-Lit at s n = ap named_expr_of (sym (expr.rolls-Lit at s n)) ∙ fold-roll-NamedExpr (RawExpr Link) (RawPlace Link) named_expr_step named_place_step (NamedExpr-F.Lit at s n)

pub named_expr_of-Un : (at : ℕ) (op : UnOp) (a : ExprValue) → named_expr_of (expr.Un at op a) ≡ un at op (named_expr_of a)
named_expr_of-Un at op a = ap named_expr_of (sym (expr.rolls-Un at op a)) ∙ fold-roll-NamedExpr (RawExpr Link) (RawPlace Link) named_expr_step named_place_step (NamedExpr-F.Un at op a)

pub named_expr_of-Bin : (at : ℕ) (op : BinOp) (a b : ExprValue) → named_expr_of (expr.Bin at op a b) ≡ bin at op (named_expr_of a) (named_expr_of b)
named_expr_of-Bin at op a b = ap named_expr_of (sym (expr.rolls-Bin at op a b)) ∙ fold-roll-NamedExpr (RawExpr Link) (RawPlace Link) named_expr_step named_place_step (NamedExpr-F.Bin at op a b)

pub named_expr_of-Cond : (at : ℕ) (c a b : ExprValue) → named_expr_of (expr.Cond at c a b) ≡ choose at (named_expr_of c) (named_expr_of a) (named_expr_of b)
named_expr_of-Cond at c a b = ap named_expr_of (sym (expr.rolls-Cond at c a b)) ∙ fold-roll-NamedExpr (RawExpr Link) (RawPlace Link) named_expr_step named_place_step (NamedExpr-F.Cond at c a b)

pub named_expr_of-Cast : (at : ℕ) (t : TypeValue) (a : ExprValue) → named_expr_of (expr.Cast at t a) ≡ cast at (named_type_of t) (named_expr_of a)
named_expr_of-Cast at t a = ap named_expr_of (sym (expr.rolls-Cast at t a)) ∙ fold-roll-NamedExpr (RawExpr Link) (RawPlace Link) named_expr_step named_place_step (NamedExpr-F.Cast at t a)

pub named_stmt_of-Bind : (at : ℕ) (i : IdValue) (e : ExprValue) → named_stmt_of (stmt.Bind at i e) ≡ bind at (id_of i) (named_expr_of e)
named_stmt_of-Bind at i e = ap named_stmt_of (sym (stmt.rolls-Bind at i e)) ∙ fold-roll-NamedStmt (RawStmt Link) named_stmt_step (NamedStmt-F.Bind at i e)

pub named_stmt_of-Local : (at : ℕ) (i : IdValue) (t : TypeValue) → named_stmt_of (stmt.Local at i t) ≡ local at (id_of i) (named_type_of t)
named_stmt_of-Local at i t = ap named_stmt_of (sym (stmt.rolls-Local at i t)) ∙ fold-roll-NamedStmt (RawStmt Link) named_stmt_step (NamedStmt-F.Local at i t)

pub named_stmt_of-Set : (at : ℕ) (p : PlaceValue) (e : ExprValue) → named_stmt_of (stmt.Set at p e) ≡ set at (named_place_of p) (named_expr_of e)
named_stmt_of-Set at p e = ap named_stmt_of (sym (stmt.rolls-Set at p e)) ∙ fold-roll-NamedStmt (RawStmt Link) named_stmt_step (NamedStmt-F.Set at p e)

pub named_stmt_of-Copy : (at : ℕ) (p q : PlaceValue) → named_stmt_of (stmt.Copy at p q) ≡ copy at (named_place_of p) (named_place_of q)
named_stmt_of-Copy at p q = ap named_stmt_of (sym (stmt.rolls-Copy at p q)) ∙ fold-roll-NamedStmt (RawStmt Link) named_stmt_step (NamedStmt-F.Copy at p q)

pub named_stmt_of-Branch : (at : ℕ) (e : ExprValue) (then_at : ℕ) (ss : List StmtValue) (else_at : ℕ) (ts : List StmtValue) → named_stmt_of (stmt.Branch at e then_at ss else_at ts) ≡ branch at (named_expr_of e) then_at (all_named_stmts_of ss) else_at (all_named_stmts_of ts)
named_stmt_of-Branch at e then_at ss else_at ts = ap named_stmt_of (sym (stmt.rolls-Branch at e then_at ss else_at ts)) ∙ fold-roll-NamedStmt (RawStmt Link) named_stmt_step (NamedStmt-F.Branch at e then_at ss else_at ts)

pub named_stmt_of-Loop : (at : ℕ) (i : IdValue) (n : ℕ) (body : List StmtValue) → named_stmt_of (stmt.Loop at i n body) ≡ loop at (id_of i) n (all_named_stmts_of body)
named_stmt_of-Loop at i n body = ap named_stmt_of (sym (stmt.rolls-Loop at i n body)) ∙ fold-roll-NamedStmt (RawStmt Link) named_stmt_step (NamedStmt-F.Loop at i n body)

pub named_stmt_of-Emit : (at : ℕ) (u : LinkValue) (e : ExprValue) → named_stmt_of (stmt.Emit at u e) ≡ emit at (link_of u) (named_expr_of e)
named_stmt_of-Emit at u e = ap named_stmt_of (sym (stmt.rolls-Emit at u e)) ∙ fold-roll-NamedStmt (RawStmt Link) named_stmt_step (NamedStmt-F.Emit at u e)
