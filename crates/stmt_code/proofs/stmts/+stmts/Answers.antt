use Rattle.std.proofs.Common.{◌≡◌, ◌∙◌, ◌-◌, length, slice_set, arith, refl, ap}
use Rattle.tower_syntax.specs.View.{stmt_of}
use Rattle.task_code.specs.declared.program.Instr.TheVariants.{Jmp, Jz}
use Rattle.task_code.specs.Piece.{listed}
use Rattle.task_code.proofs.Grown.{keeps_more}
use Rattle.stmt_code.specs.Body.{stmt_code}
use Rattle.stmt_code.proofs.Stated.{branch_made, loop_made, stmts_next, stmts_end}
use Rattle.stmt_code.proofs.stmts.+stmts.Goals as goal

pub add_stmt-returns-in_ok-add_stmts-in-Branch-2-clause-ok : goal.add_stmt-returns-in_ok-add_stmts-in-Branch-2-clause-ok
add_stmt-returns-in_ok-add_stmts-in-Branch-2-clause-ok t c =
    branch_made c.args.layout.now c.args.code.now c.add_expr-in-Branch.new.code c.hold.new.self c.add_stmts.new.code c.hold-in-Branch.new.self c.add_stmts-in-Branch.new.code c.join.new.code
    (Jmp 0) (Jmp 0) c.in_ok-test-in-Branch.test c.in_ok-jump-in-Branch.jump
    c.args.stmt.now c.in-Branch.e c.in-Branch.first c.in-Branch.second c.as_slice.result.now c.as_slice-in-Branch.result.now
    c.in-Branch.is c.as_slice.ensures c.as_slice-in-Branch.ensures
    c.in_ok-add_expr-in-Branch.ensures.ok c.in_ok-test-in-Branch.ensures.ok.0 c.in_ok-test-in-Branch.ensures.ok.1
    c.in_ok-add_stmts-in-Branch.ensures.ok c.in_ok-jump-in-Branch.ensures.ok.0 c.in_ok-jump-in-Branch.ensures.ok.1
    c.in_ok-add_stmts-in-Branch-2.ensures.ok c.join.ensures

pub add_stmt-returns-in_ok-add_stmts-in-Branch-2-clause-keeps : goal.add_stmt-returns-in_ok-add_stmts-in-Branch-2-clause-keeps
add_stmt-returns-in_ok-add_stmts-in-Branch-2-clause-keeps t c =
    keeps_more c.args.code.now c.join.new.code (listed (stmt_code c.args.layout.now (length c.args.code.now) (stmt_of c.args.stmt.now)))
    (add_stmt-returns-in_ok-add_stmts-in-Branch-2-clause-ok t c)

pub add_stmt-returns-in_ok-add_loop_end-in-Loop-clause-ok : goal.add_stmt-returns-in_ok-add_loop_end-in-Loop-clause-ok
add_stmt-returns-in_ok-add_loop_end-in-Loop-clause-ok t c =
    let test = c.in_ok-test-in-Loop.test in
    let written = c.patch.ensures ∙ ap (λ n. slice_set c.add_loop_end.new.code test (Jz n)) c.place-out.ensures in
    loop_made c.args.layout.now c.args.code.now c.add_loop_head.new.code c.add_stmts-in-Loop.new.code c.add_loop_end.new.code c.patch.new.self
    (Jmp 0) test (test - 3) c.binder-address.result
    c.args.stmt.now c.in-Loop.b c.in-Loop.turns c.in-Loop.body c.as_slice-in-Loop.result.now
    c.in-Loop.is c.as_slice-in-Loop.ensures c.binder-address.ensures
    c.in_ok-test-in-Loop.ensures.ok.1 c.in_ok-test-in-Loop.ensures.ok.0 refl
    c.in_ok-add_stmts-in-Loop.ensures.ok c.in_ok-add_loop_end-in-Loop.ensures.ok written

pub add_stmt-returns-in_ok-add_loop_end-in-Loop-clause-keeps : goal.add_stmt-returns-in_ok-add_loop_end-in-Loop-clause-keeps
add_stmt-returns-in_ok-add_loop_end-in-Loop-clause-keeps t c =
    keeps_more c.args.code.now c.patch.new.self (listed (stmt_code c.args.layout.now (length c.args.code.now) (stmt_of c.args.stmt.now)))
    (add_stmt-returns-in_ok-add_loop_end-in-Loop-clause-ok t c)

pub add_stmts-loop-stmt-init : goal.add_stmts-loop-stmt-init
add_stmts-loop-stmt-init t c = (refl, λ start h. h)

pub add_stmts-returns-in_err-add_stmt-clause-keeps : goal.add_stmts-returns-in_err-add_stmt-clause-keeps
add_stmts-returns-in_err-add_stmt-clause-keeps t c = λ start h. c.in_err-add_stmt.ensures.keeps start (c.loop-stmt.invariant.1 start h)

pub add_stmts-loop-stmt-preserved : goal.add_stmts-loop-stmt-preserved
add_stmts-loop-stmt-preserved t c = (
  stmts_next c.args.layout.now c.args.stmts.now c.loop-stmt.stmt-index c.stmt-item.result c.loop-stmt.code c.add_stmt.new.code c.loop-stmt-test.true c.stmt-item.is c.in_ok-add_stmt.ensures.ok ∙ c.loop-stmt.invariant.0,
  λ start h. c.add_stmt.ensures.keeps start (c.loop-stmt.invariant.1 start h),
)

pub add_stmts-returns-clause-ok : goal.add_stmts-returns-clause-ok
add_stmts-returns-clause-ok t c =
    let end : c.loop-stmt.stmt-index ≡ length c.args.stmts.now = omega arith in
    stmts_end c.args.layout.now c.loop-stmt.code _ c.args.stmts.now c.loop-stmt.stmt-index end c.loop-stmt.invariant.0

pub add_stmts-returns-clause-keeps : goal.add_stmts-returns-clause-keeps
add_stmts-returns-clause-keeps t c = c.loop-stmt.invariant.1
