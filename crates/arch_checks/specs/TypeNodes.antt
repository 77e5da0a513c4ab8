-- The type nodes of a file, as its text has them: those of fields, messages, states, locals and casts, each with the
-- nodes inside it.
use Rattle.std.specs.Prelude.{ℕ, List, [], ◌∷◌, ◌++◌, map}
use Rattle.tower_types.specs.Ty.{Shape, shape_in, table_of, words, depth}
use Rattle.tower_syntax.specs.RawTree.{Link, RawType, word, rec, array, RawPlace, root, get, index, RawExpr, truth, read, lit, un, bin, choose, cast, RawStmt, bind, local, set, copy, branch, loop, emit, RawStmts, no_stmts, stmt, RawPart, state, handler, RawItem, fields, signal, channel, monitor, Raw}
use Rattle.arch_types.specs.Typing.{type_of}
use Rattle.arch_types.specs.Outline.{each, outline, Written, handlers_of, callback_of}
use Rattle.arch_checks.specs.Sizes.{greatest}

abbrev pub nodes : RawType Link → List (RawType Link)
nodes (word at s) = word at s ∷ []
nodes (rec u) = rec u ∷ []
nodes (array at n t) = array at n t ∷ nodes t

abbrev mutual
  pub in_place : RawPlace Link → List (RawType Link)
  in_place (root u) = []
  in_place (get at p name) = in_place p
  in_place (index at p e) = in_place p ++ in_expr e

  pub in_expr : RawExpr Link → List (RawType Link)
  in_expr (truth at b) = []
  in_expr (read p) = in_place p
  in_expr (lit at s n) = []
  in_expr (un at op a) = in_expr a
  in_expr (bin at op a b) = in_expr a ++ in_expr b
  in_expr (choose at c a b) = in_expr c ++ in_expr a ++ in_expr b
  in_expr (cast at t a) = nodes t ++ in_expr a

abbrev mutual
  pub in_stmt : RawStmt Link → List (RawType Link)
  in_stmt (bind at i e) = in_expr e
  in_stmt (local at i t) = nodes t
  in_stmt (set at p e) = in_place p ++ in_expr e
  in_stmt (copy at p q) = in_place p ++ in_place q
  in_stmt (branch at c then_at a else_at b) = in_expr c ++ in_stmts a ++ in_stmts b
  in_stmt (loop at i n body) = in_stmts body
  in_stmt (emit at u e) = in_expr e

  pub in_stmts : RawStmts Link → List (RawType Link)
  in_stmts no_stmts = []
  in_stmts (stmt s ss) = in_stmt s ++ in_stmts ss

abbrev pub in_state : RawPart Link → List (RawType Link)
in_state (state at i t) = nodes t
in_state (handler at i u hs) = []

abbrev pub in_item : RawItem Link → List (RawType Link)
in_item (fields at i fs) = each (λ f. nodes f.ty) fs
in_item (signal at i t p d) = nodes t
in_item (channel at i t) = nodes t
in_item (monitor at i ps) = each in_state ps
in_item _ = []

abbrev pub in_handler : Written → List (RawType Link)
in_handler h = each (λ c. in_stmts c.1) (each callback_of h.parts)

abbrev pub type_nodes : Raw Link → List (RawType Link)
type_nodes raw = each in_item raw.items ++ each in_handler (handlers_of raw)

-- the shapes of all records and type nodes
abbrev pub written_shapes : Raw Link → List Shape
written_shapes raw =
    let table = table_of (outline raw).records in
    table ++ map (λ t. shape_in table (type_of t)) (type_nodes raw)

abbrev pub deepest_written : Raw Link → ℕ
deepest_written raw = greatest (map depth (written_shapes raw))

abbrev pub widest_written : Raw Link → ℕ
widest_written raw = greatest (map words (written_shapes raw))
