-- Offsets ascend in the order of the text: each part begins behind what holds it, and ends where the next begins.
use Rattle.std.specs.Prelude.{ℕ, ◌<◌}
use Rattle.tower_syntax.specs.RawTree.{Link, RawPlace, root, get, index, RawExpr, truth, read, lit, un, bin, choose, cast, RawStmt, bind, local, set, copy, branch, loop, emit, RawStmts, no_stmts, stmt}
use Rattle.tower_syntax.specs.Offset.{link_offset, type_offset, place_offset, expr_offset, stmt_offset}

-- the node, and all parts of it, stand before an end
abbrev mutual
  pub AscendsPlace : RawPlace Link → ℕ → Type 0
  AscendsPlace (root u) end = u.at < end
  AscendsPlace (get at p name) end = (at < place_offset link_offset p) × AscendsPlace p name.at × (name.at < end)
  AscendsPlace (index at p e) end = (at < place_offset link_offset p) × AscendsPlace p (expr_offset link_offset e) × Ascends e end

  pub Ascends : RawExpr Link → ℕ → Type 0
  Ascends (truth at b) end = at < end
  Ascends (read p) end = AscendsPlace p end
  Ascends (lit at s n) end = at < end
  Ascends (un at op a) end = (at < expr_offset link_offset a) × Ascends a end
  Ascends (bin at op a b) end = (at < expr_offset link_offset a) × Ascends a (expr_offset link_offset b) × Ascends b end
  Ascends (choose at c a b) end =
      (at < expr_offset link_offset c) × Ascends c (expr_offset link_offset a) × Ascends a (expr_offset link_offset b) × Ascends b end
  Ascends (cast at t a) end = (at < type_offset link_offset t) × (type_offset link_offset t < expr_offset link_offset a) × Ascends a end

-- where a list begins: at its end, where it is empty
abbrev pub start_in : RawStmts Link → ℕ → ℕ
start_in no_stmts end = end
start_in (stmt s ss) end = stmt_offset s

abbrev mutual
  pub AscendsStmt : RawStmt Link → ℕ → Type 0
  AscendsStmt (bind at i e) end = (at < expr_offset link_offset e) × Ascends e end
  AscendsStmt (local at i u) end = at < end
  AscendsStmt (set at p e) end = (at < place_offset link_offset p) × AscendsPlace p (expr_offset link_offset e) × Ascends e end
  AscendsStmt (copy at p q) end = (at < place_offset link_offset p) × AscendsPlace p (place_offset link_offset q) × AscendsPlace q end
  AscendsStmt (branch at c then_at a else_at b) end =
      (at < expr_offset link_offset c) × Ascends c then_at × (then_at < start_in a else_at) × AscendsAll a else_at × (else_at < start_in b end) × AscendsAll b end
  AscendsStmt (loop at i n body) end = (at < start_in body end) × AscendsAll body end
  AscendsStmt (emit at u e) end = (at < expr_offset link_offset e) × Ascends e end

  pub AscendsAll : RawStmts Link → ℕ → Type 0
  AscendsAll no_stmts end = Unit {0}
  AscendsAll (stmt s ss) end = AscendsStmt s (start_in ss end) × AscendsAll ss end
