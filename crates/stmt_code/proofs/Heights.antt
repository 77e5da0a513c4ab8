-- The stack that code needs is bounded by the heights of expressions and places.
use Rattle.std.proofs.Common.{ℕ, ◌+◌, ◌≤◌, arith, Bool, true, false, ◌||◌}
use Rattle.std.specs.Prelude.{max}
use Rattle.tower_syntax.specs.Tree.{Expr, lit, read, un, bin, choose, cast, Place, place, Steps, no_steps, field, at, Stmt, bind, local, set, copy, branch, loop, emit, Stmts, no_stmts, stmt}
use Rattle.tower_syntax.specs.WellNumbered.{height, place_height, steps_height}
use Rattle.arch_types.specs.Shallow.{IsLow, AreLow}
use Rattle.stmt_code.specs.Layout.{is_moving, given_index}
use Rattle.stmt_code.proofs.Needs.{need, need_steps, need_at, need_sent, one_if, room_one, room_of}

one_le : (g : Bool) → one_if g ≤ 1
one_le true = omega arith
one_le false = omega arith

grown : (ss : Steps) (h : ℕ) → h ≤ steps_height h ss
grown no_steps h = omega arith
grown (field k ss) h = omega (arith, grown ss (h + 1))
grown (at e ss) h = omega (arith, grown ss (max h (height e) + 1))

mutual
  pub need_height : (e : Expr) → need e ≤ height e + 2
  need_height (lit s n) = omega arith
  need_height (read (place r ss)) = omega (arith, need_from ss false 1, grown ss 1)
  need_height (un op s a) = omega (arith, need_height a)
  need_height (bin op s a b) = omega (arith, need_height a, need_height b)
  need_height (choose c a b) = omega (arith, need_height c, need_height a, need_height b)
  need_height (cast s a) = omega (arith, need_height a)

  pub need_from : (ss : Steps) (g : Bool) (h : ℕ) → need_steps g ss ≤ steps_height h ss + 2
  need_from no_steps g h = omega arith
  need_from (field k ss) g h = need_from ss g (h + 1)
  need_from (at e ss) g h = omega (arith, need_height e, one_le g, need_from ss (is_moving (given_index e) || g) (max h (height e) + 1), grown ss (max h (height e) + 1))

at_height : (p : Place) → need_at p ≤ place_height p + 2
at_height (place r ss) = need_from ss false 1

sent_height : (e : Expr) → need_sent e ≤ height e + 6
sent_height (read p) = let q = at_height p in omega (arith, q)
sent_height (lit s n) = let q = need_height (lit s n) in omega (arith, q)
sent_height (un op s a) = let q = need_height (un op s a) in omega (arith, q)
sent_height (bin op s a b) = let q = need_height (bin op s a b) in omega (arith, q)
sent_height (choose c a b) = let q = need_height (choose c a b) in omega (arith, q)
sent_height (cast s a) = let q = need_height (cast s a) in omega (arith, q)

mutual
  pub low_room : (s : Stmt) → IsLow s → room_one s ≤ 64
  low_room (bind b e) h = let q = need_height e in omega (arith, q, h)
  low_room (local b) h = omega arith
  low_room (set p e) h = let h0 = h.0 in let h1 = h.1 in let q = need_height e in let q' = at_height p in omega (arith, q, q', h0, h1)
  low_room (copy p q) h = let h0 = h.0 in let h1 = h.1 in let q1 = at_height p in let q2 = at_height q in omega (arith, q1, q2, h0, h1)
  low_room (branch e a b) h = let h0 = h.0 in let q = need_height e in let q1 = low_rooms a h.1 in let q2 = low_rooms b h.2 in omega (arith, q, q1, q2, h0)
  low_room (loop b n body) h = let q = low_rooms body h in omega (arith, q)
  low_room (emit k e) h = let q = sent_height e in omega (arith, q, h)

  pub low_rooms : (ss : Stmts) → AreLow ss → room_of ss ≤ 64
  low_rooms no_stmts h = omega arith
  low_rooms (stmt s ss) h = let q = low_room s h.0 in let q' = low_rooms ss h.1 in omega (arith, q, q')
