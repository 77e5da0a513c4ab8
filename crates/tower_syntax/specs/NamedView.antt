-- The trees that the program's values of `Named` and its family stand for.
use Rattle.std.specs.Prelude.{List, [], ◌∷◌, map}
use Rattle.tower_syntax.specs.RawTree.{Link, RawType, word, rec, array, RawPlace, root, get, index, RawExpr, truth, read, lit, un, bin, choose, cast, RawStmt, bind, local, set, copy, branch, loop, emit, RawStmts, no_stmts, stmt, RawField, RawHpart, emitter, callback, RawPart, state, handler, RawItem, fields, init, period, signal, channel, output, monitor, Raw}
use Rattle.tower_syntax.specs.RawView.{id_of}
use Rattle.tower_syntax.specs.declared.named.Link.{Link as LinkValue}
use Rattle.tower_syntax.specs.declared.named.NamedType.{NamedType as TypeValue}
use Rattle.tower_syntax.specs.declared.named.NamedType.TheOpen.{NamedType-F}
use Rattle.tower_syntax.specs.declared.named.NamedType.TheFolds.{fold-NamedType}
use Rattle.tower_syntax.specs.declared.named.NamedPlace.{NamedPlace as PlaceValue}
use Rattle.tower_syntax.specs.declared.named.NamedExpr.{NamedExpr as ExprValue}
use Rattle.tower_syntax.specs.declared.named.NamedExpr.TheOpen.{NamedPlace-F, NamedExpr-F}
use Rattle.tower_syntax.specs.declared.named.NamedExpr.TheFolds.{fold-NamedPlace, fold-NamedExpr}
use Rattle.tower_syntax.specs.declared.named.NamedStmt.{NamedStmt as StmtValue}
use Rattle.tower_syntax.specs.declared.named.NamedStmt.TheOpen.{NamedStmt-F}
use Rattle.tower_syntax.specs.declared.named.NamedStmt.TheFolds.{fold-NamedStmt}
use Rattle.tower_syntax.specs.declared.named.NamedField.{NamedField as FieldValue}
use Rattle.tower_syntax.specs.declared.named.NamedHpart.{NamedHpart as HpartValue}
use Rattle.tower_syntax.specs.declared.named.NamedHpart.TheVariants as hpart
use Rattle.tower_syntax.specs.declared.named.NamedPart.{NamedPart as PartValue}
use Rattle.tower_syntax.specs.declared.named.NamedPart.TheVariants as part
use Rattle.tower_syntax.specs.declared.named.NamedItem.{NamedItem as ItemValue}
use Rattle.tower_syntax.specs.declared.named.NamedItem.TheVariants as item
use Rattle.tower_syntax.specs.declared.named.Named.{Named as NamedValue}

abbrev pub link_of : LinkValue → Link
link_of l = record { at = l.at; target = l.target }

abbrev pub named_type_step : NamedType-F (RawType Link) → RawType Link
named_type_step (NamedType-F.Word at s) = word at s
named_type_step (NamedType-F.Rec u) = rec (link_of u)
named_type_step (NamedType-F.Array at n t) = array at n t

abbrev pub named_type_of : TypeValue → RawType Link
named_type_of = fold-NamedType (RawType Link) named_type_step

abbrev pub named_place_step : NamedPlace-F (RawExpr Link) (RawPlace Link) → RawPlace Link
named_place_step (NamedPlace-F.Root u) = root (link_of u)
named_place_step (NamedPlace-F.Get at p f) = get at p (id_of f)
named_place_step (NamedPlace-F.At at p e) = index at p e

abbrev pub named_expr_step : NamedExpr-F (RawExpr Link) (RawPlace Link) → RawExpr Link
named_expr_step (NamedExpr-F.Truth at b) = truth at b
named_expr_step (NamedExpr-F.Read p) = read p
named_expr_step (NamedExpr-F.Lit at s n) = lit at s n
named_expr_step (NamedExpr-F.Un at op a) = un at op a
named_expr_step (NamedExpr-F.Bin at op a b) = bin at op a b
named_expr_step (NamedExpr-F.Cond at c a b) = choose at c a b
named_expr_step (NamedExpr-F.Cast at t a) = cast at (named_type_of t) a

abbrev pub named_place_of : PlaceValue → RawPlace Link
named_place_of = fold-NamedPlace (RawExpr Link) (RawPlace Link) named_expr_step named_place_step

abbrev pub named_expr_of : ExprValue → RawExpr Link
named_expr_of = fold-NamedExpr (RawExpr Link) (RawPlace Link) named_expr_step named_place_step

abbrev pub named_stmts_of : List (RawStmt Link) → RawStmts Link
named_stmts_of [] = no_stmts
named_stmts_of (s ∷ ss) = stmt s (named_stmts_of ss)

abbrev pub named_stmt_step : NamedStmt-F (RawStmt Link) → RawStmt Link
named_stmt_step (NamedStmt-F.Bind at i e) = bind at (id_of i) (named_expr_of e)
named_stmt_step (NamedStmt-F.Local at i t) = local at (id_of i) (named_type_of t)
named_stmt_step (NamedStmt-F.Set at p e) = set at (named_place_of p) (named_expr_of e)
named_stmt_step (NamedStmt-F.Copy at p q) = copy at (named_place_of p) (named_place_of q)
named_stmt_step (NamedStmt-F.Branch at e then_at ss else_at ts) = branch at (named_expr_of e) then_at (named_stmts_of ss) else_at (named_stmts_of ts)
named_stmt_step (NamedStmt-F.Loop at i n body) = loop at (id_of i) n (named_stmts_of body)
named_stmt_step (NamedStmt-F.Emit at u e) = emit at (link_of u) (named_expr_of e)

abbrev pub named_stmt_of : StmtValue → RawStmt Link
named_stmt_of = fold-NamedStmt (RawStmt Link) named_stmt_step

abbrev pub all_named_stmts_of : List StmtValue → RawStmts Link
all_named_stmts_of ss = named_stmts_of (map named_stmt_of ss)

abbrev pub named_field_of : FieldValue → RawField Link
named_field_of f = record { at = f.at; name = id_of f.name; ty = named_type_of f.ty }

abbrev pub named_hpart_of : HpartValue → RawHpart Link
named_hpart_of (hpart.Emitter at i u n) = emitter at (id_of i) (link_of u) n
named_hpart_of (hpart.Callback at i ss) = callback at (id_of i) (all_named_stmts_of ss)

abbrev pub named_part_of : PartValue → RawPart Link
named_part_of (part.State at i t) = state at (id_of i) (named_type_of t)
named_part_of (part.Handler at i u hs) = handler at (id_of i) (link_of u) (map named_hpart_of hs)

abbrev pub named_item_of : ItemValue → RawItem Link
named_item_of (item.Record at i fs) = fields at (id_of i) (map named_field_of fs)
named_item_of (item.Init at i p) = init at (id_of i) p
named_item_of (item.Period at i ms p d) = period at (id_of i) ms p d
named_item_of (item.Signal at i t p d) = signal at (id_of i) (named_type_of t) p d
named_item_of (item.Channel at i t) = channel at (id_of i) (named_type_of t)
named_item_of (item.Output at i u) = output at (id_of i) (link_of u)
named_item_of (item.Monitor at i ps) = monitor at (id_of i) (map named_part_of ps)

abbrev pub named_of : NamedValue → Raw Link
named_of r = record { at = r.at; version = r.version; name = id_of r.name; items = map named_item_of r.items }
