-- What each variant of the raw tree stands for.
use Rattle.std.proofs.Common.{◌≡◌, ◌∙◌, ap, sym, ℕ, ℤ, Bool, List}
use Rattle.tower_types.specs.declared.scalar.Scalar.{Scalar}
use Rattle.tower_types.specs.declared.scalar.BinOp.{BinOp}
use Rattle.tower_types.specs.declared.scalar.UnOp.{UnOp}
use Rattle.tower_syntax.specs.RawTree.{Id, RawType, word, rec, array, RawPlace, root, get, index, RawExpr, truth, read, lit, un, bin, choose, cast, RawStmt, bind, local, set, copy, branch, loop, emit}
use Rattle.tower_syntax.specs.RawView.{id_of, raw_type_of, raw_type_step, raw_place_of, raw_place_step, raw_expr_of, raw_expr_step, raw_stmt_of, raw_stmt_step, all_raw_stmts_of}
use Rattle.tower_syntax.specs.declared.raw.Id.{Id as IdValue}
use Rattle.tower_syntax.specs.declared.raw.RawType.{RawType as TypeValue}
use Rattle.tower_syntax.specs.declared.raw.RawType.TheVariants as ty
use Rattle.tower_syntax.specs.declared.raw.RawPlace.{RawPlace as PlaceValue}
use Rattle.tower_syntax.specs.declared.raw.RawPlace.TheVariants as place
use Rattle.tower_syntax.specs.declared.raw.RawExpr.{RawExpr as ExprValue}
use Rattle.tower_syntax.specs.declared.raw.RawExpr.TheVariants as expr
use Rattle.tower_syntax.specs.declared.raw.RawStmt.{RawStmt as StmtValue}
use Rattle.tower_syntax.specs.declared.raw.RawStmt.TheVariants as stmt
use Rattle.tower_syntax.specs.declared.raw.RawType.TheOpen.{RawType-F}
use Rattle.tower_syntax.specs.declared.raw.RawType.TheFolds.{fold-roll-RawType}
use Rattle.tower_syntax.specs.declared.raw.RawExpr.TheOpen.{RawPlace-F, RawExpr-F}
use Rattle.tower_syntax.specs.declared.raw.RawExpr.TheFolds.{fold-roll-RawPlace, fold-roll-RawExpr}
use Rattle.tower_syntax.specs.declared.raw.RawStmt.TheOpen.{RawStmt-F}
use Rattle.tower_syntax.specs.declared.raw.RawStmt.TheFolds.{fold-roll-RawStmt}

pub raw_type_of-Word : (at : ℕ) (s : Scalar) → raw_type_of (ty.Word at s) ≡ word at s
raw_type_of-Word at s = ap raw_type_of (sym (ty.rolls-Word at s)) ∙ fold-roll-RawType (RawType Id) raw_type_step (RawType-F.Word at s)

pub raw_type_of-Rec : (u : IdValue) → raw_type_of (ty.Rec u) ≡ rec (id_of u)
raw_type_of-Rec u = ap raw_type_of (sym (ty.rolls-Rec u)) ∙ fold-roll-RawType (RawType Id) raw_type_step (RawType-F.Rec u)

pub raw_type_of-Array : (at n : ℕ) (t : TypeValue) → raw_type_of (ty.Array at n t) ≡ array at n (raw_type_of t)
raw_type_of-Array at n t = ap raw_type_of (sym (ty.rolls-Array at n t)) ∙ fold-roll-RawType (RawType Id) raw_type_step (RawType-F.Array at n t)

pub raw_place_of-Root : (u : IdValue) → raw_place_of (place.Root u) ≡ root (id_of u)
raw_place_of-Root u = ap raw_place_of (sym (place.rolls-Root u)) ∙ fold-roll-RawPlace (RawExpr Id) (RawPlace Id) raw_expr_step raw_place_step (RawPlace-F.Root u)

pub raw_place_of-Get : (at : ℕ) (p : PlaceValue) (f : IdValue) → raw_place_of (place.Get at p f) ≡ get at (raw_place_of p) (id_of f)
raw_place_of-Get at p f = ap raw_place_of (sym (place.rolls-Get at p f)) ∙ fold-roll-RawPlace (RawExpr Id) (RawPlace Id) raw_expr_step raw_place_step (RawPlace-F.Get at p f)

pub raw_place_of-At : (at : ℕ) (p : PlaceValue) (e : ExprValue) → raw_place_of (place.At at p e) ≡ index at (raw_place_of p) (raw_expr_of e)
raw_place_of-At at p e = ap raw_place_of (sym (place.rolls-At at p e)) ∙ fold-roll-RawPlace (RawExpr Id) (RawPlace Id) raw_expr_step raw_place_step (RawPlace-F.At at p e)

pub raw_expr_of-Truth : (at : ℕ) (b : Bool) → raw_expr_of (expr.Truth at b) ≡ truth at b
raw_expr_of-Truth at b = ap raw_expr_of (sym (expr.rolls-Truth at b)) ∙ fold-roll-RawExpr (RawExpr Id) (RawPlace Id) raw_expr_step raw_place_step (RawExpr-F.Truth at b)

pub raw_expr_of-Read : (p : PlaceValue) → raw_expr_of (expr.Read p) ≡ read (raw_place_of p)
raw_expr_of-Read p = ap raw_expr_of (sym (expr.rolls-Read p)) ∙ fold-roll-RawExpr (RawExpr Id) (RawPlace Id) raw_expr_step raw_place_step (RawExpr-F.Read p)

pub raw_expr_of-Lit : (at : ℕ) (s : Scalar) (n : ℤ) → raw_expr_of (expr.Lit at s n) ≡ lit at s n
raw_expr_of-Lit at s n = ap raw_expr_of (sym (expr.rolls-Lit at s n)) ∙ fold-roll-RawExpr (RawExpr Id) (RawPlace Id) raw_expr_step raw_place_step (RawExpr-F.Lit at s n)

pub raw_expr_of-Un : (at : ℕ) (op : UnOp) (a : ExprValue) → raw_expr_of (expr.Un at op a) ≡ un at op (raw_expr_of a)
raw_expr_of-Un at op a = ap raw_expr_of (sym (expr.rolls-Un at op a)) ∙ fold-roll-RawExpr (RawExpr Id) (RawPlace Id) raw_expr_step raw_place_step (RawExpr-F.Un at op a)

pub raw_expr_of-Bin : (at : ℕ) (op : BinOp) (a b : ExprValue) → raw_expr_of (expr.Bin at op a b) ≡ bin at op (raw_expr_of a) (raw_expr_of b)
raw_expr_of-Bin at op a b = ap raw_expr_of (sym (expr.rolls-Bin at op a b)) ∙ fold-roll-RawExpr (RawExpr Id) (RawPlace Id) raw_expr_step raw_place_step (RawExpr-F.Bin at op a b)

pub raw_expr_of-Cond : (at : ℕ) (c a b : ExprValue) → raw_expr_of (expr.Cond at c a b) ≡ choose at (raw_expr_of c) (raw_expr_of a) (raw_expr_of b)
raw_expr_of-Cond at c a b = ap raw_expr_of (sym (expr.rolls-Cond at c a b)) ∙ fold-roll-RawExpr (RawExpr Id) (RawPlace Id) raw_expr_step raw_place_step (RawExpr-F.Cond at c a b)

pub raw_expr_of-Cast : (at : ℕ) (t : TypeValue) (a : ExprValue) → raw_expr_of (expr.Cast at t a) ≡ cast at (raw_type_of t) (raw_expr_of a)
raw_expr_of-Cast at t a = ap raw_expr_of (sym (expr.rolls-Cast at t a)) ∙ fold-roll-RawExpr (RawExpr Id) (RawPlace Id) raw_expr_step raw_place_step (RawExpr-F.Cast at t a)

pub raw_stmt_of-Bind : (at : ℕ) (i : IdValue) (e : ExprValue) → raw_stmt_of (stmt.Bind at i e) ≡ bind at (id_of i) (raw_expr_of e)
raw_stmt_of-Bind at i e = ap raw_stmt_of (sym (stmt.rolls-Bind at i e)) ∙ fold-roll-RawStmt (RawStmt Id) raw_stmt_step (RawStmt-F.Bind at i e)

pub raw_stmt_of-Local : (at : ℕ) (i : IdValue) (t : TypeValue) → raw_stmt_of (stmt.Local at i t) ≡ local at (id_of i) (raw_type_of t)
raw_stmt_of-Local at i t = ap raw_stmt_of (sym (stmt.rolls-Local at i t)) ∙ fold-roll-RawStmt (RawStmt Id) raw_stmt_step (RawStmt-F.Local at i t)

pub raw_stmt_of-Set : (at : ℕ) (p : PlaceValue) (e : ExprValue) → raw_stmt_of (stmt.Set at p e) ≡ set at (raw_place_of p) (raw_expr_of e)
raw_stmt_of-Set at p e = ap raw_stmt_of (sym (stmt.rolls-Set at p e)) ∙ fold-roll-RawStmt (RawStmt Id) raw_stmt_step (RawStmt-F.Set at p e)

pub raw_stmt_of-Copy : (at : ℕ) (p q : PlaceValue) → raw_stmt_of (stmt.Copy at p q) ≡ copy at (raw_place_of p) (raw_place_of q)
raw_stmt_of-Copy at p q = ap raw_stmt_of (sym (stmt.rolls-Copy at p q)) ∙ fold-roll-RawStmt (RawStmt Id) raw_stmt_step (RawStmt-F.Copy at p q)

pub raw_stmt_of-Branch : (at : ℕ) (e : ExprValue) (then_at : ℕ) (ss : List StmtValue) (else_at : ℕ) (ts : List StmtValue) → raw_stmt_of (stmt.Branch at e then_at ss else_at ts) ≡ branch at (raw_expr_of e) then_at (all_raw_stmts_of ss) else_at (all_raw_stmts_of ts)
raw_stmt_of-Branch at e then_at ss else_at ts = ap raw_stmt_of (sym (stmt.rolls-Branch at e then_at ss else_at ts)) ∙ fold-roll-RawStmt (RawStmt Id) raw_stmt_step (RawStmt-F.Branch at e then_at ss else_at ts)

pub raw_stmt_of-Loop : (at : ℕ) (i : IdValue) (n : ℕ) (body : List StmtValue) → raw_stmt_of (stmt.Loop at i n body) ≡ loop at (id_of i) n (all_raw_stmts_of body)
raw_stmt_of-Loop at i n body = ap raw_stmt_of (sym (stmt.rolls-Loop at i n body)) ∙ fold-roll-RawStmt (RawStmt Id) raw_stmt_step (RawStmt-F.Loop at i n body)

pub raw_stmt_of-Emit : (at : ℕ) (u : IdValue) (e : ExprValue) → raw_stmt_of (stmt.Emit at u e) ≡ emit at (id_of u) (raw_expr_of e)
raw_stmt_of-Emit at u e = ap raw_stmt_of (sym (stmt.rolls-Emit at u e)) ∙ fold-roll-RawStmt (RawStmt Id) raw_stmt_step (RawStmt-F.Emit at u e)
