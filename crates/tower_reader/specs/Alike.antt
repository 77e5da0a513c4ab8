-- Trees that are equal, offsets apart. A bare tree has each offset 0.
use Rattle.std.specs.Prelude.{◌≡◌, map}
use Rattle.tower_syntax.specs.RawTree.{Id, RawType, word, rec, array, RawPlace, root, get, index, RawExpr, truth, read, lit, un, bin, choose, cast, RawStmt, bind, local, set, copy, branch, loop, emit, RawStmts, no_stmts, stmt, RawField, RawHpart, emitter, callback, RawPart, state, handler, RawItem, fields, init, period, signal, channel, output, monitor, Raw}

abbrev pub bare_id : Id → Id
bare_id i = record { at = 0; name = i.name }

abbrev pub bare_type : RawType Id → RawType Id
bare_type (word at s) = word 0 s
bare_type (rec i) = rec (bare_id i)
bare_type (array at n t) = array 0 n (bare_type t)

abbrev mutual
  pub bare_place : RawPlace Id → RawPlace Id
  bare_place (root i) = root (bare_id i)
  bare_place (get at p f) = get 0 (bare_place p) (bare_id f)
  bare_place (index at p e) = index 0 (bare_place p) (bare_expr e)

  pub bare_expr : RawExpr Id → RawExpr Id
  bare_expr (truth at b) = truth 0 b
  bare_expr (read p) = read (bare_place p)
  bare_expr (lit at s n) = lit 0 s n
  bare_expr (un at op a) = un 0 op (bare_expr a)
  bare_expr (bin at op a b) = bin 0 op (bare_expr a) (bare_expr b)
  bare_expr (choose at c a b) = choose 0 (bare_expr c) (bare_expr a) (bare_expr b)
  bare_expr (cast at t a) = cast 0 (bare_type t) (bare_expr a)

abbrev mutual
  pub bare_stmt : RawStmt Id → RawStmt Id
  bare_stmt (bind at i e) = bind 0 (bare_id i) (bare_expr e)
  bare_stmt (local at i t) = local 0 (bare_id i) (bare_type t)
  bare_stmt (set at p e) = set 0 (bare_place p) (bare_expr e)
  bare_stmt (copy at p q) = copy 0 (bare_place p) (bare_place q)
  bare_stmt (branch at e then_at ss else_at ts) = branch 0 (bare_expr e) 0 (bare_stmts ss) 0 (bare_stmts ts)
  bare_stmt (loop at i n body) = loop 0 (bare_id i) n (bare_stmts body)
  bare_stmt (emit at i e) = emit 0 (bare_id i) (bare_expr e)

  pub bare_stmts : RawStmts Id → RawStmts Id
  bare_stmts no_stmts = no_stmts
  bare_stmts (stmt s ss) = stmt (bare_stmt s) (bare_stmts ss)

abbrev pub bare_field : RawField Id → RawField Id
bare_field f = record { at = 0; name = bare_id f.name; ty = bare_type f.ty }

abbrev pub bare_hpart : RawHpart Id → RawHpart Id
bare_hpart (emitter at i c n) = emitter 0 (bare_id i) (bare_id c) n
bare_hpart (callback at i ss) = callback 0 (bare_id i) (bare_stmts ss)

abbrev pub bare_part : RawPart Id → RawPart Id
bare_part (state at i t) = state 0 (bare_id i) (bare_type t)
bare_part (handler at i on hs) = handler 0 (bare_id i) (bare_id on) (map bare_hpart hs)

abbrev pub bare_item : RawItem Id → RawItem Id
bare_item (fields at i fs) = fields 0 (bare_id i) (map bare_field fs)
bare_item (init at i p) = init 0 (bare_id i) p
bare_item (period at i ms p d) = period 0 (bare_id i) ms p d
bare_item (signal at i t p d) = signal 0 (bare_id i) (bare_type t) p d
bare_item (channel at i t) = channel 0 (bare_id i) (bare_type t)
bare_item (output at i c) = output 0 (bare_id i) (bare_id c)
bare_item (monitor at i ps) = monitor 0 (bare_id i) (map bare_part ps)

abbrev pub bare : Raw Id → Raw Id
bare r = record { at = 0; version = r.version; name = bare_id r.name; items = map bare_item r.items }

abbrev pub IsAlike : Raw Id → Raw Id → Type 0
IsAlike r s = bare r ≡ bare s
