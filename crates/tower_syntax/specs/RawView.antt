-- The trees that the program's values of `Raw` and its family stand for.
use Rattle.std.specs.Prelude.{List, [], ◌∷◌, map}
use Rattle.tower_syntax.specs.RawTree.{Id, RawType, word, rec, array, RawPlace, root, get, index, RawExpr, truth, read, lit, un, bin, choose, cast, RawStmt, bind, local, set, copy, branch, loop, emit, RawStmts, no_stmts, stmt, RawField, RawHpart, emitter, callback, RawPart, state, handler, RawItem, fields, init, period, signal, channel, output, monitor, Raw}
use Rattle.tower_syntax.specs.declared.raw.Id.{Id as IdValue}
use Rattle.tower_syntax.specs.declared.raw.RawType.{RawType as TypeValue}
use Rattle.tower_syntax.specs.declared.raw.RawType.TheOpen.{RawType-F}
use Rattle.tower_syntax.specs.declared.raw.RawType.TheFolds.{fold-RawType}
use Rattle.tower_syntax.specs.declared.raw.RawPlace.{RawPlace as PlaceValue}
use Rattle.tower_syntax.specs.declared.raw.RawExpr.{RawExpr as ExprValue}
use Rattle.tower_syntax.specs.declared.raw.RawExpr.TheOpen.{RawPlace-F, RawExpr-F}
use Rattle.tower_syntax.specs.declared.raw.RawExpr.TheFolds.{fold-RawPlace, fold-RawExpr}
use Rattle.tower_syntax.specs.declared.raw.RawStmt.{RawStmt as StmtValue}
use Rattle.tower_syntax.specs.declared.raw.RawStmt.TheOpen.{RawStmt-F}
use Rattle.tower_syntax.specs.declared.raw.RawStmt.TheFolds.{fold-RawStmt}
use Rattle.tower_syntax.specs.declared.raw.RawField.{RawField as FieldValue}
use Rattle.tower_syntax.specs.declared.raw.RawHpart.{RawHpart as HpartValue}
use Rattle.tower_syntax.specs.declared.raw.RawHpart.TheVariants as hpart
use Rattle.tower_syntax.specs.declared.raw.RawPart.{RawPart as PartValue}
use Rattle.tower_syntax.specs.declared.raw.RawPart.TheVariants as part
use Rattle.tower_syntax.specs.declared.raw.RawItem.{RawItem as ItemValue}
use Rattle.tower_syntax.specs.declared.raw.RawItem.TheVariants as item
use Rattle.tower_syntax.specs.declared.raw.Raw.{Raw as RawValue}

abbrev pub id_of : IdValue → Id
id_of i = record { at = i.at; name = i.name }

abbrev pub raw_type_step : RawType-F (RawType Id) → RawType Id
raw_type_step (RawType-F.Word at s) = word at s
raw_type_step (RawType-F.Rec u) = rec (id_of u)
raw_type_step (RawType-F.Array at n t) = array at n t

abbrev pub raw_type_of : TypeValue → RawType Id
raw_type_of = fold-RawType (RawType Id) raw_type_step

abbrev pub raw_place_step : RawPlace-F (RawExpr Id) (RawPlace Id) → RawPlace Id
raw_place_step (RawPlace-F.Root u) = root (id_of u)
raw_place_step (RawPlace-F.Get at p f) = get at p (id_of f)
raw_place_step (RawPlace-F.At at p e) = index at p e

abbrev pub raw_expr_step : RawExpr-F (RawExpr Id) (RawPlace Id) → RawExpr Id
raw_expr_step (RawExpr-F.Truth at b) = truth at b
raw_expr_step (RawExpr-F.Read p) = read p
raw_expr_step (RawExpr-F.Lit at s n) = lit at s n
raw_expr_step (RawExpr-F.Un at op a) = un at op a
raw_expr_step (RawExpr-F.Bin at op a b) = bin at op a b
raw_expr_step (RawExpr-F.Cond at c a b) = choose at c a b
raw_expr_step (RawExpr-F.Cast at t a) = cast at (raw_type_of t) a

abbrev pub raw_place_of : PlaceValue → RawPlace Id
raw_place_of = fold-RawPlace (RawExpr Id) (RawPlace Id) raw_expr_step raw_place_step

abbrev pub raw_expr_of : ExprValue → RawExpr Id
raw_expr_of = fold-RawExpr (RawExpr Id) (RawPlace Id) raw_expr_step raw_place_step

abbrev pub raw_stmts_of : List (RawStmt Id) → RawStmts Id
raw_stmts_of [] = no_stmts
raw_stmts_of (s ∷ ss) = stmt s (raw_stmts_of ss)

abbrev pub raw_stmt_step : RawStmt-F (RawStmt Id) → RawStmt Id
raw_stmt_step (RawStmt-F.Bind at i e) = bind at (id_of i) (raw_expr_of e)
raw_stmt_step (RawStmt-F.Local at i t) = local at (id_of i) (raw_type_of t)
raw_stmt_step (RawStmt-F.Set at p e) = set at (raw_place_of p) (raw_expr_of e)
raw_stmt_step (RawStmt-F.Copy at p q) = copy at (raw_place_of p) (raw_place_of q)
raw_stmt_step (RawStmt-F.Branch at e then_at ss else_at ts) = branch at (raw_expr_of e) then_at (raw_stmts_of ss) else_at (raw_stmts_of ts)
raw_stmt_step (RawStmt-F.Loop at i n body) = loop at (id_of i) n (raw_stmts_of body)
raw_stmt_step (RawStmt-F.Emit at u e) = emit at (id_of u) (raw_expr_of e)

abbrev pub raw_stmt_of : StmtValue → RawStmt Id
raw_stmt_of = fold-RawStmt (RawStmt Id) raw_stmt_step

abbrev pub all_raw_stmts_of : List StmtValue → RawStmts Id
all_raw_stmts_of ss = raw_stmts_of (map raw_stmt_of ss)

abbrev pub raw_field_of : FieldValue → RawField Id
raw_field_of f = record { at = f.at; name = id_of f.name; ty = raw_type_of f.ty }

abbrev pub raw_hpart_of : HpartValue → RawHpart Id
raw_hpart_of (hpart.Emitter at i u n) = emitter at (id_of i) (id_of u) n
raw_hpart_of (hpart.Callback at i ss) = callback at (id_of i) (all_raw_stmts_of ss)

abbrev pub raw_part_of : PartValue → RawPart Id
raw_part_of (part.State at i t) = state at (id_of i) (raw_type_of t)
raw_part_of (part.Handler at i u hs) = handler at (id_of i) (id_of u) (map raw_hpart_of hs)

abbrev pub raw_item_of : ItemValue → RawItem Id
raw_item_of (item.Record at i fs) = fields at (id_of i) (map raw_field_of fs)
raw_item_of (item.Init at i p) = init at (id_of i) p
raw_item_of (item.Period at i ms p d) = period at (id_of i) ms p d
raw_item_of (item.Signal at i t p d) = signal at (id_of i) (raw_type_of t) p d
raw_item_of (item.Channel at i t) = channel at (id_of i) (raw_type_of t)
raw_item_of (item.Output at i u) = output at (id_of i) (id_of u)
raw_item_of (item.Monitor at i ps) = monitor at (id_of i) (map raw_part_of ps)

abbrev pub raw_of : RawValue → Raw Id
raw_of r = record { at = r.at; version = r.version; name = id_of r.name; items = map raw_item_of r.items }
