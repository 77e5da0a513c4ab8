-- Where a node begins in the text. `of` is the offset of a used name.
use Rattle.std.specs.Prelude.{ℕ}
use Rattle.tower_syntax.specs.RawTree.{Id, Link, RawType, word, rec, array, RawPlace, root, get, index, RawExpr, truth, read, lit, un, bin, choose, cast, RawStmt, bind, local, set, copy, branch, loop, emit}

abbrev pub id_offset : Id → ℕ
id_offset i = i.at

abbrev pub link_offset : Link → ℕ
link_offset l = l.at

abbrev pub type_offset : {U : Type 0} → (U → ℕ) → RawType U → ℕ
type_offset of (word at s) = at
type_offset of (rec u) = of u
type_offset of (array at n t) = at

abbrev pub place_offset : {U : Type 0} → (U → ℕ) → RawPlace U → ℕ
place_offset of (root u) = of u
place_offset of (get at p f) = at
place_offset of (index at p e) = at

abbrev pub expr_offset : {U : Type 0} → (U → ℕ) → RawExpr U → ℕ
expr_offset of (truth at b) = at
expr_offset of (read p) = place_offset of p
expr_offset of (lit at s n) = at
expr_offset of (un at op a) = at
expr_offset of (bin at op a b) = at
expr_offset of (choose at c a b) = at
expr_offset of (cast at t a) = at

abbrev pub stmt_offset : {U : Type 0} → RawStmt U → ℕ
stmt_offset (bind at i e) = at
stmt_offset (local at i t) = at
stmt_offset (set at p e) = at
stmt_offset (copy at p q) = at
stmt_offset (branch at e then_at ss else_at ts) = at
stmt_offset (loop at i n body) = at
stmt_offset (emit at u e) = at
