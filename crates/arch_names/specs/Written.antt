-- Where the names of a file stand: the offset of each name that is declared or used, in text order, but for the file's
-- own and those after `get`.
use Rattle.std.specs.Prelude.{ℕ, ◌<◌, List, [], ◌∷◌, ◌++◌}
use Rattle.tower_syntax.specs.RawTree.{Id, RawType, word, rec, array, RawPlace, root, get, index, RawExpr, truth, read, lit, un, bin, choose, cast, RawStmt, bind, local, set, copy, branch, loop, emit, RawStmts, no_stmts, stmt, RawField, RawHpart, emitter, callback, RawPart, state, handler, RawItem, fields, init, period, signal, channel, output, monitor, Raw}
use Rattle.arch_names.specs.Sets.{each}

abbrev pub in_type : RawType Id → List ℕ
in_type (word at s) = []
in_type (rec u) = u.at ∷ []
in_type (array at n t) = in_type t

abbrev mutual
  pub in_place : RawPlace Id → List ℕ
  in_place (root u) = u.at ∷ []
  in_place (get at p f) = in_place p
  in_place (index at p e) = in_place p ++ in_expr e

  pub in_expr : RawExpr Id → List ℕ
  in_expr (truth at b) = []
  in_expr (read p) = in_place p
  in_expr (lit at t n) = []
  in_expr (un at op x) = in_expr x
  in_expr (bin at op x y) = in_expr x ++ in_expr y
  in_expr (choose at c x y) = (in_expr c ++ in_expr x) ++ in_expr y
  in_expr (cast at t x) = in_type t ++ in_expr x

abbrev mutual
  pub in_stmt : RawStmt Id → List ℕ
  in_stmt (bind at x e) = x.at ∷ in_expr e
  in_stmt (local at x t) = x.at ∷ in_type t
  in_stmt (set at p e) = in_place p ++ in_expr e
  in_stmt (copy at p q) = in_place p ++ in_place q
  in_stmt (branch at e then_at ss else_at ts) = (in_expr e ++ in_stmts ss) ++ in_stmts ts
  in_stmt (loop at x n body) = x.at ∷ in_stmts body
  in_stmt (emit at u e) = u.at ∷ in_expr e

  pub in_stmts : RawStmts Id → List ℕ
  in_stmts no_stmts = []
  in_stmts (stmt t ts) = in_stmt t ++ in_stmts ts

abbrev pub in_hpart : RawHpart Id → List ℕ
in_hpart (emitter at x u bound) = x.at ∷ u.at ∷ []
in_hpart (callback at x ss) = x.at ∷ in_stmts ss

abbrev pub in_part : RawPart Id → List ℕ
in_part (state at x t) = x.at ∷ in_type t
in_part (handler at x u hs) = x.at ∷ u.at ∷ each in_hpart hs

abbrev pub in_field : RawField Id → List ℕ
in_field f = f.name.at ∷ in_type f.ty

abbrev pub in_item : RawItem Id → List ℕ
in_item (fields at x fs) = x.at ∷ each in_field fs
in_item (init at x p) = x.at ∷ []
in_item (period at x ms p d) = x.at ∷ []
in_item (signal at x t p d) = x.at ∷ in_type t
in_item (channel at x t) = x.at ∷ in_type t
in_item (output at x u) = x.at ∷ u.at ∷ []
in_item (monitor at x ps) = x.at ∷ each in_part ps

abbrev pub written : Raw Id → List ℕ
written raw = each in_item raw.items

abbrev pub IsBelow : ℕ → List ℕ → Type 0
IsBelow n [] = Unit {0}
IsBelow n (m ∷ ms) = (n < m) × IsBelow n ms

-- each is below all behind it
abbrev pub AreAscending : List ℕ → Type 0
AreAscending [] = Unit {0}
AreAscending (n ∷ ns) = IsBelow n ns × AreAscending ns

-- the names stand in text order, no two at one place, as they do in a text
abbrev pub Ascends : Raw Id → Type 0
Ascends raw = AreAscending (written raw)
