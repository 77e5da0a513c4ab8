-- How many words of the operand stack code needs.
use Rattle.std.specs.Prelude.{ℕ, ◌+◌, max, Bool, true, false, ◌||◌}
use Rattle.tower_syntax.specs.Tree.{Expr, lit, read, un, bin, choose, cast, Place, place, Steps, no_steps, field, at, Stmt, bind, local, set, copy, branch, loop, emit, Stmts, no_stmts, stmt}
use Rattle.stmt_code.specs.Layout.{given_index, is_moving}

abbrev pub one_if : Bool → ℕ
one_if true = 1
one_if false = 0

abbrev mutual
  pub need : Expr → ℕ
  need (lit s n) = 1
  need (read p) = need_place p
  need (un op s a) = need a
  need (bin op s a b) = max (need a) (need b + 1)
  need (choose c a b) = max (need c) (max (need a) (need b))
  need (cast s a) = need a

  pub need_place : Place → ℕ
  need_place (place r ss) = max (need_steps false ss) 1

  -- with an offset on the stack, or with none, that is not counted
  pub need_steps : Bool → Steps → ℕ
  need_steps g no_steps = 0
  need_steps g (field k ss) = need_steps g ss
  need_steps g (at e ss) = max (max (need e) 2 + one_if g) (need_steps (is_moving (given_index e) || g) ss)

abbrev pub need_at : Place → ℕ
need_at (place r ss) = need_steps false ss

abbrev pub need_sent : Expr → ℕ
need_sent (read p) = need_at p + 4
need_sent e = need e + 4

abbrev mutual
  pub room_one : Stmt → ℕ
  room_one (bind b e) = need e
  room_one (local b) = 1
  room_one (set p e) = max (need_at p) (need e) + 1
  room_one (copy p q) = max (need_at p) (need_at q) + 4
  room_one (branch e a b) = max (need e) (max (room_of a) (room_of b))
  room_one (loop b n ss) = max 2 (room_of ss)
  room_one (emit k e) = need_sent e

  pub room_of : Stmts → ℕ
  room_of no_stmts = 0
  room_of (stmt s ss) = max (room_one s) (room_of ss)
