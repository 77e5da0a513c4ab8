-- What a node is read as, and how each row makes this of its children's parts.
use Rattle.std.specs.Prelude.{ℕ, min, ℤ, pos, List, [], ◌∷◌, Option, Some, None}
use Rattle.std.specs.List.{filter_map}
use Rattle.tower_types.specs.declared.scalar.Scalar.TheVariants as scalar
use Rattle.tower_syntax.specs.RawTree.{Id, RawType, word, rec, array, RawPlace, root, get, index, RawExpr, read, lit, un, bin, choose, cast, RawStmt, bind, local, set, copy, branch, loop, emit, RawStmts, no_stmts, RawField, RawHpart, emitter, callback, RawPart, state, handler, RawItem, fields, init, period, signal, channel, output, monitor, Raw}
use Rattle.tower_syntax.specs.RawView.{raw_stmts_of}
use Rattle.tower_reader.specs.declared.table.Row.{Row}
use Rattle.tower_reader.specs.declared.table.Row.TheVariants as row
use Rattle.tower_reader.specs.declared.table.ItemRow.{ItemRow}
use Rattle.tower_reader.specs.declared.table.ItemRow.TheVariants as item
use Rattle.tower_reader.specs.declared.table.PartRow.{PartRow}
use Rattle.tower_reader.specs.declared.table.PartRow.TheVariants as part
use Rattle.tower_reader.specs.declared.table.StmtRow.{StmtRow}
use Rattle.tower_reader.specs.declared.table.StmtRow.TheVariants as stmt
use Rattle.tower_reader.specs.declared.table.ExprRow.{ExprRow}
use Rattle.tower_reader.specs.declared.table.ExprRow.TheVariants as expr

-- `a_block` is a list `then` or `else`, with its offset
pub data Part : Type 0 where
  nothing : Part
  a_name : Id → Part
  a_number : ℕ → Part
  a_literal : ℤ → Part
  a_type : RawType Id → Part
  a_place : RawPlace Id → Part
  an_expr : RawExpr Id → Part
  a_stmt : RawStmt Id → Part
  a_block : ℕ → RawStmts Id → Part
  a_field : RawField Id → Part
  an_hpart : RawHpart Id → Part
  a_part : RawPart Id → Part
  an_item : RawItem Id → Part
  a_tower : Raw Id → Part

-- What is taken from a part. A child has the kind that its place has, so the last clause of each is met only where a node offends.

abbrev pub no_id : Id
no_id = record { at = 0; name = [] }

abbrev pub no_raw : Raw Id
no_raw = record { at = 0; version = 1; name = no_id; items = [] }

abbrev pub as_name : Part → Id
as_name (a_name i) = i
as_name _ = no_id

abbrev pub as_number : Part → ℕ
as_number (a_number n) = n
as_number _ = 0

-- a number of one byte
abbrev pub as_byte : Part → ℕ
as_byte (a_number n) = min n 255
as_byte _ = 0

abbrev pub as_literal : Part → ℤ
as_literal (a_literal z) = z
as_literal _ = pos 0

abbrev pub as_type : Part → RawType Id
as_type (a_type t) = t
as_type _ = rec no_id

abbrev pub as_place : Part → RawPlace Id
as_place (a_place p) = p
as_place _ = root no_id

-- a place is read
abbrev pub as_expr : Part → RawExpr Id
as_expr (an_expr e) = e
as_expr (a_place p) = read p
as_expr _ = read (root no_id)

abbrev pub block_at : Part → ℕ
block_at (a_block at ss) = at
block_at _ = 0

abbrev pub as_block : Part → RawStmts Id
as_block (a_block at ss) = ss
as_block _ = no_stmts

abbrev pub as_tower : Part → Raw Id
as_tower (a_tower t) = t
as_tower _ = no_raw

abbrev pub if_stmt : Part → Option (RawStmt Id)
if_stmt (a_stmt s) = Some s
if_stmt _ = None

abbrev pub if_field : Part → Option (RawField Id)
if_field (a_field f) = Some f
if_field _ = None

abbrev pub if_hpart : Part → Option (RawHpart Id)
if_hpart (an_hpart h) = Some h
if_hpart _ = None

abbrev pub if_part : Part → Option (RawPart Id)
if_part (a_part p) = Some p
if_part _ = None

abbrev pub if_item : Part → Option (RawItem Id)
if_item (an_item x) = Some x
if_item _ = None

abbrev pub stmts : List Part → RawStmts Id
stmts ps = raw_stmts_of (filter_map if_stmt ps)

abbrev pub first : List Part → Part
first [] = nothing
first (p ∷ ps) = p

abbrev pub rest : List Part → List Part
rest [] = []
rest (p ∷ ps) = ps

abbrev pub second : List Part → Part
second ps = first (rest ps)

abbrev pub third : List Part → Part
third ps = first (rest (rest ps))

abbrev pub fourth : List Part → Part
fourth ps = first (rest (rest (rest ps)))

-- What each row makes of its children's parts; the first argument is the version, or the row, and the second the offset.

abbrev pub tower_part : ℕ → ℕ → List Part → Part
tower_part version at ps = a_tower (record { at = at; version = version; name = as_name (first ps); items = filter_map if_item (rest ps) })

abbrev pub item_part : ItemRow → ℕ → List Part → Part
item_part item.Record at ps = an_item (fields at (as_name (first ps)) (filter_map if_field (rest ps)))
item_part item.Init at ps = an_item (init at (as_name (first ps)) (as_byte (second ps)))
item_part item.Period at ps = an_item (period at (as_name (first ps)) (as_number (second ps)) (as_byte (third ps)) None)
item_part item.Period2 at ps = an_item (period at (as_name (first ps)) (as_number (second ps)) (as_byte (third ps)) (Some (as_number (fourth ps))))
item_part item.Signal at ps = an_item (signal at (as_name (first ps)) (as_type (second ps)) (as_byte (third ps)) None)
item_part item.Signal2 at ps = an_item (signal at (as_name (first ps)) (as_type (second ps)) (as_byte (third ps)) (Some (as_number (fourth ps))))
item_part item.Channel at ps = an_item (channel at (as_name (first ps)) (as_type (second ps)))
item_part item.Output at ps = an_item (output at (as_name (first ps)) (as_name (second ps)))
item_part item.Monitor at ps = an_item (monitor at (as_name (first ps)) (filter_map if_part (rest ps)))

abbrev pub part_part : PartRow → ℕ → List Part → Part
part_part part.Field at ps = a_field (record { at = at; name = as_name (first ps); ty = as_type (second ps) })
part_part part.State at ps = a_part (state at (as_name (first ps)) (as_type (second ps)))
part_part part.Handler at ps = a_part (handler at (as_name (first ps)) (as_name (second ps)) (filter_map if_hpart (rest (rest ps))))
part_part part.Emitter at ps = an_hpart (emitter at (as_name (first ps)) (as_name (second ps)) (as_number (third ps)))
part_part part.Callback at ps = an_hpart (callback at (as_name (first ps)) (stmts (rest ps)))
part_part part.Ix at ps = a_type (word at (scalar.Ix (as_number (first ps))))
part_part part.Array at ps = a_type (array at (as_number (first ps)) (as_type (second ps)))

abbrev pub stmt_part : StmtRow → ℕ → List Part → Part
stmt_part stmt.Let at ps = a_stmt (bind at (as_name (first ps)) (as_expr (second ps)))
stmt_part stmt.Local at ps = a_stmt (local at (as_name (first ps)) (as_type (second ps)))
stmt_part stmt.Set at ps = a_stmt (set at (as_place (first ps)) (as_expr (second ps)))
stmt_part stmt.Copy at ps = a_stmt (copy at (as_place (first ps)) (as_place (second ps)))
stmt_part stmt.If at ps = a_stmt (branch at (as_expr (first ps)) (block_at (second ps)) (as_block (second ps)) (block_at (third ps)) (as_block (third ps)))
stmt_part stmt.Then at ps = a_block at (stmts ps)
stmt_part stmt.Else at ps = a_block at (stmts ps)
stmt_part stmt.For at ps = a_stmt (loop at (as_name (first ps)) (as_number (second ps)) (stmts (rest (rest ps))))
stmt_part stmt.Emit at ps = a_stmt (emit at (as_name (first ps)) (as_expr (second ps)))

abbrev pub expr_part : ExprRow → ℕ → List Part → Part
expr_part expr.Get at ps = a_place (get at (as_place (first ps)) (as_name (second ps)))
expr_part expr.At at ps = a_place (index at (as_place (first ps)) (as_expr (second ps)))
expr_part (expr.Lit s) at ps = an_expr (lit at s (as_literal (first ps)))
expr_part expr.LitIx at ps = an_expr (lit at (scalar.Ix (as_number (first ps))) (as_literal (second ps)))
expr_part (expr.Bin o) at ps = an_expr (bin at o (as_expr (first ps)) (as_expr (second ps)))
expr_part (expr.Un o) at ps = an_expr (un at o (as_expr (first ps)))
expr_part expr.Cond at ps = an_expr (choose at (as_expr (first ps)) (as_expr (second ps)) (as_expr (third ps)))
expr_part expr.Cast at ps = an_expr (cast at (as_type (first ps)) (as_expr (second ps)))

-- the part that a row makes of its children's
abbrev pub build : Row → ℕ → List Part → Part
build row.File at ps = first ps
build row.Tower at ps = tower_part 1 at ps
build row.Tower2 at ps = tower_part 2 at ps
build (row.Item r) at ps = item_part r at ps
build (row.Part r) at ps = part_part r at ps
build (row.Stmt r) at ps = stmt_part r at ps
build (row.Expr r) at ps = expr_part r at ps
