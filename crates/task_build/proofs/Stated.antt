-- Each instruction of a statement keeps the rules.
use Rattle.std.proofs.Common.{Bool, true, false, ◌≡◌, ℕ, suc, ◌+◌, ◌<◌, ◌≤◌, false, length, sym, ap, subst, arith}
use Rattle.tower_types.specs.declared.scalar.Scalar.{Scalar}
use Rattle.tower_types.specs.declared.scalar.Scalar.TheVariants as scalar
use Rattle.tower_types.specs.Ty.{Shape, one, words}
use Rattle.tower_syntax.specs.Tree.{Expr, lit, read, un, bin, choose, cast, Place, place, Stmt, bind, local, set, copy, branch, loop, emit, Stmts, no_stmts, stmt}
use Rattle.tower_syntax.specs.Weights.{shape_at, place_shape}
use Rattle.tower_syntax.specs.Typed.{Names, HasScalar, HasShape, Sends, IsTypedStmt, AreTypedStmts, names_after, with_name, read_only}
use Rattle.task_code.specs.declared.program.Task.{Task}
use Rattle.task_code.specs.declared.program.Instr.TheVariants.{St}
use Rattle.task_code.specs.Program.{Program}
use Rattle.task_code.specs.Piece.{Piece, ins, ◌▸◌, end}
use Rattle.stmt_code.specs.Layout.{Layout, binder_at, place_base, place_span, scratch_at, Base, private, monitor}
use Rattle.stmt_code.specs.Body.{expr_code, index_code, place_moves, before_value, behind_value, kept, moved, words_copied, set_code, copy_code, emit_code, stmt_code, stmts_code, SentMessage, message_of, moved_to, fixed_emitted, place_emitted, Moved}
use Rattle.task_code.specs.Emission.{emission}
use Rattle.arch_types.specs.Scalars.{IsProperExpr, IsProperPlace, IsProperStmt, AreProperStmts}
use Rattle.task_build.proofs.Typing.{shape_is}
use Rattle.arch_checks.specs.Wide.{IsWide}
use Rattle.task_build.proofs.Layouts.{IsLaid}
use Rattle.arch_checks.proofs.Goods.{wide_words}
use Rattle.task_build.proofs.Fine.{grows, number_pushed, Fine, before_fine, behind_fine, zeroed_fine, kept_fine, IsMoved, copied_fine, emission_fine, IsSpot, IsStanding, stands, wide_root, expr_fine, steps_fine}

module _ (p : Program) (t : Task) (w : Layout) (laid : IsLaid p t w) where
  index_fine : (names : Names) (q : Place) (s : Shape) (from : ℕ) → HasShape w.scope names q s → IsProperPlace q → end from (index_code w from q) < length t.code → Fine p t (index_code w from q)
  index_fine names (place r steps) s from h proper room =
      let wide = wide_root p t w laid names r h.0 in
      steps_fine p t w laid names steps from false _ s h.1 wide.0 wide.1 wide.2 proper room

  moved_well : (names : Names) (q : Place) (s : Shape) (index : ℕ) → HasShape w.scope names q s → index < t.room → IsMoved p t (moved w q index) (words s)
  moved_well names q s index h room = let k : IsStanding p t w laid q s = stands p t w laid names q s h in record { spot = k.spot; wide = k.fits; index = room }

  temps_there : w.temps < t.room
  temps_there = let k : w.temps + 3 ≤ t.room = laid.temps_room in omega (arith, k)

  next_there : suc w.temps < t.room
  next_there = let k : w.temps + 3 ≤ t.room = laid.temps_room in omega (arith, k)

  -- ---- the form of an `emit`

  value_fine : (names : Names) (e : Expr) (c : Scalar) (from scratch buffer width : ℕ) → HasScalar w.scope names e c → IsProperExpr e → buffer < length t.buffers → scratch + width ≤ t.room → 1 ≤ width → width ≤ 4096
      → end from (expr_code w from e ▸ ins (St scratch) ▸ emission scratch buffer width) < length t.code → Fine p t (expr_code w from e ▸ ins (St scratch) ▸ emission scratch buffer width)
  value_fine names e c from scratch buffer width h proper b spot some few room =
      let first : ℕ = end from (expr_code w from e) in
      let more : suc first ≤ end (suc first) (emission scratch buffer width) = grows (emission scratch buffer width) (suc first) in
      let inside : end (suc first) (emission scratch buffer width) < length t.code = room in
      (expr_fine p t w laid names e c from h proper (omega (arith, more, inside)), (omega (arith, spot, some), emission_fine p t scratch buffer width b spot few))

  copied_sent : (m : SentMessage) (q : Moved) → IsMoved p t q m.width → 1 ≤ m.width → m.width ≤ 4096 → m.scratch + m.width ≤ t.room → m.buffer < length t.buffers → Fine p t (words_copied (moved_to m) q 0 m.width ▸ emission m.scratch m.buffer m.width)
  copied_sent m q h some few room b =
      (copied_fine p t (moved_to m) q m.width m.width 0 (record { spot = (some, room); wide = omega arith; index = omega (arith, some, room) }) h (omega arith), emission_fine p t m.scratch m.buffer m.width b room few)

  place_sent_fine : (m : SentMessage) (moving : Bool) (q : Moved) → IsMoved p t q m.width → 1 ≤ m.width → m.width ≤ 4096 → m.scratch + m.width ≤ t.room → m.buffer < length t.buffers → Fine p t (place_emitted m moving q)
  place_sent_fine m true q h some few room b = copied_sent m q h some few room b
  place_sent_fine m false q h some few room b = fixed q.base h.spot
    where
      fixed : (base : Base) → IsSpot p t base q.span → Fine p t (fixed_emitted m base q)
      fixed (private a) spot = let end_room : a + q.span ≤ t.room = spot.1 in let wide : m.width ≤ q.span = h.wide in emission_fine p t a m.buffer m.width b (omega (arith, end_room, wide)) few
      fixed (monitor n a) spot = copied_sent m q h some few room b

  pub emit_fine : (names : Names) (e : Expr) (from k : ℕ) → k < length w.scope.emitters → Sends w.scope names e (shape_at w.scope.emitters k) → IsProperExpr e → end from (emit_code w from k e) < length t.code → Fine p t (emit_code w from k e)
  emit_fine names (read q) from k there h proper room =
      let s : Shape = shape_at w.scope.emitters k in
      let m : SentMessage = message_of w k in
      let wide : IsWide s = laid.wide_emitters k there in
      let first : ℕ = end from (index_code w from q) in
      let second : ℕ = end first (kept (place_moves q) w.temps) in
      let third : ℕ = end second (place_emitted m (place_moves q) (moved w q w.temps)) in
      let one_more : first ≤ second = grows (kept (place_moves q) w.temps) first in
      let two_more : second ≤ third = grows (place_emitted m (place_moves q) (moved w q w.temps)) second in
      let inside : third < length t.code = room in (
        index_fine names q s from h proper (omega (arith, one_more, two_more, inside)),
        (
          kept_fine p t (place_moves q) w.temps temps_there,
          place_sent_fine m (place_moves q) (moved w q w.temps) (moved_well names q s w.temps h temps_there) (wide_words s wide) wide.2 (laid.scratch_room k there) (laid.has_buffer k there),
        ),
      )
  emit_fine names (lit c n) from k there h proper room =
      let s : Shape = shape_at w.scope.emitters k in
      let wide : IsWide s = laid.wide_emitters k there in
      value_fine names (lit c n) h.0 from (scratch_at w k) (w.first_buffer + k) (words s) h.2 proper (laid.has_buffer k there) (laid.scratch_room k there) (wide_words s wide) wide.2 room
  emit_fine names (un op c a) from k there h proper room =
      let s : Shape = shape_at w.scope.emitters k in
      let wide : IsWide s = laid.wide_emitters k there in
      value_fine names (un op c a) h.0 from (scratch_at w k) (w.first_buffer + k) (words s) h.2 proper (laid.has_buffer k there) (laid.scratch_room k there) (wide_words s wide) wide.2 room
  emit_fine names (bin op c a d) from k there h proper room =
      let s : Shape = shape_at w.scope.emitters k in
      let wide : IsWide s = laid.wide_emitters k there in
      value_fine names (bin op c a d) h.0 from (scratch_at w k) (w.first_buffer + k) (words s) h.2 proper (laid.has_buffer k there) (laid.scratch_room k there) (wide_words s wide) wide.2 room
  emit_fine names (choose c a d) from k there h proper room =
      let s : Shape = shape_at w.scope.emitters k in
      let wide : IsWide s = laid.wide_emitters k there in
      value_fine names (choose c a d) h.0 from (scratch_at w k) (w.first_buffer + k) (words s) h.2 proper (laid.has_buffer k there) (laid.scratch_room k there) (wide_words s wide) wide.2 room
  emit_fine names (cast c a) from k there h proper room =
      let s : Shape = shape_at w.scope.emitters k in
      let wide : IsWide s = laid.wide_emitters k there in
      value_fine names (cast c a) h.0 from (scratch_at w k) (w.first_buffer + k) (words s) h.2 proper (laid.has_buffer k there) (laid.scratch_room k there) (wide_words s wide) wide.2 room

  -- ---- statements

  set_fine : (names : Names) (q : Place) (e : Expr) (c : Scalar) (from : ℕ) → HasShape w.scope names q (one c) → HasScalar w.scope names e c → IsProperPlace q → IsProperExpr e → end from (set_code w from q e) < length t.code → Fine p t (set_code w from q e)
  set_fine names q e c from h g proper_q proper_e room =
      let first : ℕ = end from (index_code w from q) in
      let second : ℕ = end first (before_value (place_moves q) (place_base w q)) in
      let third : ℕ = end second (expr_code w second e) in
      let last : ℕ = end third (behind_value (place_moves q) (place_base w q) (place_span w q)) in
      let one_more : first ≤ second = grows (before_value (place_moves q) (place_base w q)) first in
      let two_more : second ≤ third = grows (expr_code w second e) second in
      let three_more : third ≤ last = grows (behind_value (place_moves q) (place_base w q) (place_span w q)) third in
      let inside : last < length t.code = room in (
        (index_fine names q (one c) from h proper_q (omega (arith, one_more, two_more, three_more, inside)), before_fine p t (place_moves q) (place_base w q)),
        (expr_fine p t w laid names e c second g proper_e (omega (arith, three_more, inside)), behind_fine p t (place_moves q) (place_base w q) (place_span w q) (stands p t w laid names q (one c) h).spot),
      )

  copy_fine : (names : Names) (q r : Place) (s : Shape) (from : ℕ) → HasShape w.scope names q s → HasShape w.scope names r s → IsProperPlace q → IsProperPlace r → end from (copy_code w from q r) < length t.code → Fine p t (copy_code w from q r)
  copy_fine names q r s from h g proper_q proper_r room =
      let n : ℕ = words (place_shape w.scope q) in
      let first : ℕ = end from (index_code w from q) in
      let second : ℕ = end first (kept (place_moves q) w.temps) in
      let third : ℕ = end second (index_code w second r) in
      let fourth : ℕ = end third (kept (place_moves r) (suc w.temps)) in
      let last : ℕ = end fourth (words_copied (moved w q w.temps) (moved w r (suc w.temps)) 0 n) in
      let one_more : first ≤ second = grows (kept (place_moves q) w.temps) first in
      let two_more : second ≤ third = grows (index_code w second r) second in
      let three_more : third ≤ fourth = grows (kept (place_moves r) (suc w.temps)) third in
      let four_more : fourth ≤ last = grows (words_copied (moved w q w.temps) (moved w r (suc w.temps)) 0 n) fourth in
      let inside : last < length t.code = room in
      let same : place_shape w.scope q ≡ s = shape_is w.scope names q s h in
      let to : IsMoved p t (moved w q w.temps) n = subst (λ u. IsMoved p t (moved w q w.temps) (words u)) (sym same) (moved_well names q s w.temps h temps_there) in
      let source : IsMoved p t (moved w r (suc w.temps)) n = subst (λ u. IsMoved p t (moved w r (suc w.temps)) (words u)) (sym same) (moved_well names r s (suc w.temps) g next_there) in (
        (index_fine names q s from h proper_q (omega (arith, one_more, two_more, three_more, four_more, inside)), kept_fine p t (place_moves q) w.temps temps_there),
        (
          (index_fine names r s second g proper_r (omega (arith, three_more, four_more, inside)), kept_fine p t (place_moves r) (suc w.temps) next_there),
          copied_fine p t (moved w q w.temps) (moved w r (suc w.temps)) n n 0 to source (omega arith),
        ),
      )

  binder_there : (b : ℕ) (c : Scalar) → b < length w.scope.binders → shape_at w.scope.binders b ≡ one c → binder_at w b < t.room
  binder_there b c h e =
      let room : binder_at w b + words (shape_at w.scope.binders b) ≤ t.room = laid.binder_room b h in
      let single : words (shape_at w.scope.binders b) ≡ 1 = ap words e in
      omega (arith, room, single)

  mutual
    pub stmt_fine : (s : Stmt) (names : Names) (from : ℕ) → IsTypedStmt w.scope names s → IsProperStmt s → end from (stmt_code w from s) < length t.code → Fine p t (stmt_code w from s)
    stmt_fine (bind b e) names from h proper room = (expr_fine p t w laid names e h.1.0 from h.1.2 proper (omega (arith, room)), binder_there b h.1.0 h.0.0 h.1.1)
    stmt_fine (local b) names from h proper room = zeroed_fine p t (words (shape_at w.scope.binders b)) (binder_at w b) (laid.binder_room b h.0)
    stmt_fine (set q e) names from h proper room = set_fine names q e h.1.0 from h.1.1 h.1.2 proper.0 proper.1 room
    stmt_fine (copy q r) names from h proper room = copy_fine names q r h.1.0 from h.1.1 h.1.2 proper.0 proper.1 room
    stmt_fine (branch e a b) names from h proper room =
        let test : ℕ = end from (expr_code w from e) in
        let first : ℕ = end (suc test) (stmts_code w (suc test) a) in
        let other : ℕ = suc first in
        let last : ℕ = end other (stmts_code w other b) in
        let inside : last < length t.code = room in
        let one_more : suc test ≤ first = grows (stmts_code w (suc test) a) (suc test) in
        let two_more : other ≤ last = grows (stmts_code w other b) other in (
          expr_fine p t w laid names e scalar.Bool from h.0 proper.0 (omega (arith, inside, one_more, two_more)),
          (omega (arith, inside, two_more), (stmts_fine a names (suc test) h.1 proper.1 (omega (arith, inside, two_more)), (inside, stmts_fine b names other h.2 proper.2 inside))),
        )
    stmt_fine (loop b n body) names from h proper room =
        let inner : Piece = stmts_code w (from + 2 + 4) body in
        let begin : from + 2 + 4 ≡ suc (suc (suc (suc (suc (suc from))))) = omega arith in
        let same : end (from + 2 + 4) inner ≡ end (suc (suc (suc (suc (suc (suc from)))))) inner = ap (λ a. end a inner) begin in
        let more : from + 2 + 4 ≤ end (from + 2 + 4) inner = grows inner (from + 2 + 4) in
        let inside : suc (suc (suc (suc (suc (end (suc (suc (suc (suc (suc (suc from)))))) inner))))) < length t.code = room in
        let there : binder_at w b < t.room = binder_there b (scalar.Ix n) h.0.0 h.1 in
        let few : n ≤ 65536 = h.3 in (
          number_pushed 0 (omega arith),
          (
            there,
            (
              there,
              (
                number_pushed n (omega (arith, few)),
                (
                  tt,
                  (
                    omega (arith, same, inside),
                    (
                      stmts_fine body (with_name b read_only names) (from + 2 + 4) h.4 proper (omega (arith, same, inside)),
                      (there, (number_pushed 1 (omega arith), (tt, (there, omega (arith, same, more, inside))))),
                    ),
                  ),
                ),
              ),
            ),
          ),
        )
    stmt_fine (emit k e) names from h proper room = emit_fine names e from k h.0 h.1 proper room

    pub stmts_fine : (ss : Stmts) (names : Names) (from : ℕ) → AreTypedStmts w.scope names ss → AreProperStmts ss → end from (stmts_code w from ss) < length t.code → Fine p t (stmts_code w from ss)
    stmts_fine no_stmts names from h proper room = tt
    stmts_fine (stmt s ss) names from h proper room =
        let middle : ℕ = end from (stmt_code w from s) in
        let more : middle ≤ end middle (stmts_code w middle ss) = grows (stmts_code w middle ss) middle in
        let inside : end middle (stmts_code w middle ss) < length t.code = room in
        (stmt_fine s names from h.0 proper.0 (omega (arith, more, inside)), stmts_fine ss (names_after s names) middle h.1 proper.1 inside)
