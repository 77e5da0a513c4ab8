-- How long code is: no longer than its weight as it stands.
use Rattle.std.proofs.Common.{ℕ, zero, suc, ◌+◌, ◌-◌, ◌*◌, ◌≤◌, length, Option, Some, None, arith, Bool, true, false, ◌||◌}
use Rattle.tower_types.specs.Ty.{Shape, one, many, all, words}
use Rattle.tower_syntax.specs.Tree.{Expr, lit, read, un, bin, choose, cast, Place, place, Steps, no_steps, field, at, Stmt, bind, local, set, copy, branch, loop, emit, Stmts, no_stmts, stmt}
use Rattle.tower_syntax.specs.Weights.{root_shape, shape_at, place_shape, field_shape, element_shape, standing, expr_weight, place_weight, steps_weight, moved_weight, move, stmt_weight, stmts_weight}
use Rattle.task_code.specs.Piece.{Piece, ◌▸◌, end, listed}
use Rattle.stmt_code.specs.Layout.{Layout, binder_at, root_base, fixed_offset, moves, given_index, is_moving, Base, private, monitor, plus}
use Rattle.stmt_code.specs.Body.{read_word, before_value, behind_value, scaled, added, if_moving, kept, index_from, word_read, words_copied, SentMessage, message_of, moved_to, place_emitted, zeroed, expr_code, steps_code, emit_code, stmt_code, stmts_code}
use Rattle.task_code.specs.Emission.{emission}
use Rattle.stmt_code.proofs.MovesRun.{source}
use Rattle.task_code.proofs.Pieces.{size, size_is}
use Rattle.task_code.proofs.Emissions.{emission_size}

scaled_size : (n : ℕ) → size (scaled n) ≤ 2
scaled_size zero = omega arith
scaled_size (suc zero) = omega arith
scaled_size (suc (suc n)) = omega arith

added_size : (g : Bool) → size (added g) ≤ 1
added_size true = omega arith
added_size false = omega arith

read_size : (g : Bool) (b : Base) (n : ℕ) → size (read_word g b n) ≤ 2
read_size true b n = omega arith
read_size false (private a) n = omega arith
read_size false (monitor m a) n = omega arith

before_size : (g : Bool) (b : Base) → size (before_value g b) ≤ 1
before_size true b = omega arith
before_size false (private a) = omega arith
before_size false (monitor m a) = omega arith

behind_size : (g : Bool) (b : Base) (n : ℕ) → size (behind_value g b n) ≤ 1
behind_size true b n = omega arith
behind_size false (private a) n = omega arith
behind_size false (monitor m a) n = omega arith

kept_size : (g : Bool) (t : ℕ) → size (kept g t) ≤ 1
kept_size true t = omega arith
kept_size false t = omega arith

from_size : (g : Bool) (t : ℕ) → size (index_from g t) ≤ 1
from_size true t = omega arith
from_size false t = omega arith

if_size : (g : Option ℕ) (x : Piece) → size (if_moving g x) ≤ size x
if_size (Some k) x = omega arith
if_size None x = omega arith

zeroed_size : (n a : ℕ) → size (zeroed a n) ≤ 2 * n
zeroed_size zero a = omega arith
zeroed_size (suc n) a = omega (arith, zeroed_size n (suc a))

fetched_size : (g : Bool) (b : Base) (n t j : ℕ) → size (word_read (source g b n t) j) ≤ 3
fetched_size g b n t j = omega (arith, from_size g t, read_size g (plus b j) (n - j))

moved_size : (g : Bool) (b : Base) (n t : ℕ) (h : Bool) (c : Base) (m u k j : ℕ) → size (words_copied (source g b n t) (source h c m u) j k) ≤ 6 * k
moved_size g b n t h c m u zero j = omega arith
moved_size g b n t h c m u (suc k) j =
    omega (arith, from_size g t, before_size g (plus b j), fetched_size h c m u j, behind_size g (plus b j) (n - j), moved_size g b n t h c m u k (suc j))

copied_size : (m : SentMessage) (g : Bool) (b : Base) (n t : ℕ) → size (words_copied (moved_to m) (source g b n t) 0 m.width ▸ emission m.scratch m.buffer m.width) ≤ 9 * m.width + 1
copied_size m g b n t = let q1 = moved_size false (private m.scratch) m.width 0 g b n t m.width 0 in let q2 = emission_size m.scratch m.buffer m.width in omega (arith, q1, q2)

emitted_size : (m : SentMessage) (g : Bool) (b : Base) (n t : ℕ) → size (place_emitted m g (source g b n t)) ≤ 9 * m.width + 1
emitted_size m true b n t = copied_size m true b n t
emitted_size m false (monitor h a) n t = copied_size m false (monitor h a) n t
emitted_size m false (private a) n t = let q = emission_size a m.buffer m.width in omega (arith, q)

abbrev place_or_expr : Expr → ℕ
place_or_expr (read p) = place_weight p
place_or_expr e = expr_weight e

sent_place : (s : Shape) (p : Place) → place_weight p ≤ moved_weight s (read p)
sent_place (one s) p = omega arith
sent_place (many n s) p = omega arith
sent_place (all ss) p = omega arith

module _ (w : Layout) where
  mutual
    pub expr_size : (e : Expr) (a : ℕ) → size (expr_code w a e) ≤ expr_weight e
    expr_size (lit s n) a = omega arith
    expr_size (read (place r ss)) a =
        omega (arith, steps_size ss a false (root_shape w.scope r), read_size (moves ss) (plus (root_base w r) (fixed_offset (root_shape w.scope r) ss)) (words (root_shape w.scope r) - fixed_offset (root_shape w.scope r) ss))
    expr_size (un op s x) a = omega (arith, expr_size x a)
    expr_size (bin op s x y) a = omega (arith, expr_size x a, expr_size y (end a (expr_code w a x)))
    expr_size (choose c x y) a =
        let b = suc (end a (expr_code w a c)) in
        omega (arith, expr_size c a, expr_size x b, expr_size y (suc (end b (expr_code w b x))))
    expr_size (cast s x) a = omega (arith, expr_size x a)

    pub steps_size : (ss : Steps) (a : ℕ) (g : Bool) (s : Shape) → size (steps_code w a g s ss) ≤ steps_weight ss
    steps_size no_steps a g s = omega arith
    steps_size (field k ss) a g s = let q = steps_size ss a g (field_shape k s) in omega (arith, q)
    steps_size (at e ss) a g s =
        let x = expr_code w a e ▸ scaled (words (element_shape s)) ▸ added g in
        omega (arith, expr_size e a, scaled_size (words (element_shape s)), added_size g, if_size (given_index e) x, steps_size ss (end a (if_moving (given_index e) x)) (is_moving (given_index e) || g) (element_shape s))

  other_weight : (e : Expr) (s : Shape) → place_or_expr e ≤ moved_weight s e
  other_weight (read p) (one t) = omega arith
  other_weight (read p) (many len t) = omega arith
  other_weight (read p) (all ts) = omega arith
  other_weight (lit s n) (one t) = omega arith
  other_weight (lit s n) (many len t) = omega arith
  other_weight (lit s n) (all ts) = omega arith
  other_weight (un op s x) (one t) = omega arith
  other_weight (un op s x) (many len t) = omega arith
  other_weight (un op s x) (all ts) = omega arith
  other_weight (bin op s x y) (one t) = omega arith
  other_weight (bin op s x y) (many len t) = omega arith
  other_weight (bin op s x y) (all ts) = omega arith
  other_weight (choose c x y) (one t) = omega arith
  other_weight (choose c x y) (many len t) = omega arith
  other_weight (choose c x y) (all ts) = omega arith
  other_weight (cast s x) (one t) = omega arith
  other_weight (cast s x) (many len t) = omega arith
  other_weight (cast s x) (all ts) = omega arith

  emit_size : (e : Expr) (a k : ℕ) → size (emit_code w a k e) ≤ moved_weight (shape_at w.scope.emitters k) e + move (words (shape_at w.scope.emitters k))
  emit_size (read (place r ss)) a k =
      let s = root_shape w.scope r in
      let m = message_of w k in
      let q1 = steps_size ss a false s in
      let q2 = kept_size (moves ss) w.temps in
      let q3 = emitted_size m (moves ss) (plus (root_base w r) (fixed_offset s ss)) (words s - fixed_offset s ss) w.temps in
      let q4 = sent_place (shape_at w.scope.emitters k) (place r ss) in
      omega (arith, q1, q2, q3, q4)
  emit_size (lit s n) a k = let m = message_of w k in let q1 = expr_size (lit s n) a in let q2 = emission_size m.scratch m.buffer m.width in let q3 = other_weight (lit s n) (shape_at w.scope.emitters k) in omega (arith, q1, q2, q3)
  emit_size (un op s x) a k = let m = message_of w k in let q1 = expr_size (un op s x) a in let q2 = emission_size m.scratch m.buffer m.width in let q3 = other_weight (un op s x) (shape_at w.scope.emitters k) in omega (arith, q1, q2, q3)
  emit_size (bin op s x y) a k = let m = message_of w k in let q1 = expr_size (bin op s x y) a in let q2 = emission_size m.scratch m.buffer m.width in let q3 = other_weight (bin op s x y) (shape_at w.scope.emitters k) in omega (arith, q1, q2, q3)
  emit_size (choose c x y) a k = let m = message_of w k in let q1 = expr_size (choose c x y) a in let q2 = emission_size m.scratch m.buffer m.width in let q3 = other_weight (choose c x y) (shape_at w.scope.emitters k) in omega (arith, q1, q2, q3)
  emit_size (cast s x) a k = let m = message_of w k in let q1 = expr_size (cast s x) a in let q2 = emission_size m.scratch m.buffer m.width in let q3 = other_weight (cast s x) (shape_at w.scope.emitters k) in omega (arith, q1, q2, q3)

  mutual
    pub stmt_size : (s : Stmt) (a : ℕ) → size (stmt_code w a s) ≤ stmt_weight standing w.scope s
    stmt_size (bind b e) a = omega (arith, expr_size e a)
    stmt_size (local b) a = omega (arith, zeroed_size (words (shape_at w.scope.binders b)) (binder_at w b))
    stmt_size (set (place r ss) e) a =
        let s = root_shape w.scope r in
        let b = plus (root_base w r) (fixed_offset s ss) in
        let first = steps_code w a false s ss ▸ before_value (moves ss) b in
        omega (arith, steps_size ss a false s, before_size (moves ss) b, expr_size e (end a first), behind_size (moves ss) b (words s - fixed_offset s ss))
    stmt_size (copy (place r ss) (place q ts)) a =
        let s = root_shape w.scope r in
        let t = root_shape w.scope q in
        let to = steps_code w a false s ss ▸ kept (moves ss) w.temps in
        omega (
          arith,
          steps_size ss a false s,
          kept_size (moves ss) w.temps,
          steps_size ts (end a to) false t,
          kept_size (moves ts) (suc w.temps),
          moved_size (moves ss) (plus (root_base w r) (fixed_offset s ss)) (words s - fixed_offset s ss) w.temps (moves ts) (plus (root_base w q) (fixed_offset t ts)) (words t - fixed_offset t ts) (suc w.temps) (words (place_shape w.scope (place r ss))) 0,
        )
    stmt_size (branch e m n) a =
        let b = suc (end a (expr_code w a e)) in
        omega (arith, expr_size e a, stmts_size m b, stmts_size n (suc (end b (stmts_code w b m))))
    stmt_size (loop b n ss) a = let q = stmts_size ss (a + 2 + 4) in omega (arith, q)
    stmt_size (emit k e) a = emit_size e a k

    pub stmts_size : (ss : Stmts) (a : ℕ) → size (stmts_code w a ss) ≤ stmts_weight standing w.scope ss
    stmts_size no_stmts a = omega arith
    stmts_size (stmt s ss) a = omega (arith, stmt_size s a, stmts_size ss (end a (stmt_code w a s)))

-- how many instructions there are
pub stmts_length : (w : Layout) (a : ℕ) (ss : Stmts) → length (listed (stmts_code w a ss)) ≤ stmts_weight standing w.scope ss
stmts_length w a ss = let q1 = size_is (stmts_code w a ss) in let q2 = stmts_size w ss a in omega (arith, q1, q2)
