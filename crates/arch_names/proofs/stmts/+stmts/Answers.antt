use Rattle.std.proofs.Common.{arith}
use Rattle.arch_names.specs.Names.{find}
use Rattle.arch_names.specs.Sites.{around_of}
use Rattle.arch_names.proofs.Sizes.{branch_size, loop_size, all_size_at}
use Rattle.arch_names.proofs.StmtRows.{branch_first, branch_second, branch_third, branch_made}
use Rattle.arch_names.proofs.StmtWalk.{more_at, exit_at, all_passed, all_past}
use Rattle.arch_names.proofs.stmts.+stmts.Goals as goal

pub name_stmts-returns-in_err-stmt-clause-err : goal.name_stmts-returns-in_err-stmt-clause-err
name_stmts-returns-in_err-stmt-clause-err t c = exit_at _ _ _ _ _ _ _ _ _ c.stmt-item.is c.loop-stmt-test.true c.loop-stmt.invariant c.from_residual.ensures.1 c.in_err-stmt.ensures.err

pub name_stmts-loop-stmt-preserved : goal.name_stmts-loop-stmt-preserved
name_stmts-loop-stmt-preserved t c = more_at _ _ _ _ _ _ _ _ _ _ c.stmt-item.is c.loop-stmt-test.true c.loop-stmt.invariant c.in_ok-stmt.ensures.ok c.in_ok-stmt.ensures.scope c.in_ok-push.ensures.ok

pub name_stmts-returns-clause-scope : goal.name_stmts-returns-clause-scope
name_stmts-returns-clause-scope t c = all_past _ _ _ _ _ (all_passed _ _ _ _ _ _ c.loop-stmt-test.false c.loop-stmt.invariant).scope c.len-before.ensures c.truncate.ensures

pub named_branch-returns-in_err-test-clause-err : goal.named_branch-returns-in_err-test-clause-err
named_branch-returns-in_err-test-clause-err t c =
    let a = around_of (find c.args.around.now.file.now) (find c.args.around.now.states.now) (find c.args.around.now.emitters.now) in
    branch_first a c.args.scope.now c.args.at c.args.test.now c.args.yes_at c.args.yes.now c.args.no_at c.args.no.now _ _ c.from_residual.ensures.1 c.in_err-test.ensures.err

pub named_branch-returns-in_err-yes-clause-err : goal.named_branch-returns-in_err-yes-clause-err
named_branch-returns-in_err-yes-clause-err t c =
    let a = around_of (find c.args.around.now.file.now) (find c.args.around.now.states.now) (find c.args.around.now.emitters.now) in
    branch_second a c.args.scope.now c.args.at c.args.test.now c.args.yes_at c.args.yes.now c.args.no_at c.args.no.now _ _ c.from_residual-in_err-yes.ensures.1 c.in_ok-test.ensures.ok.0 c.in_err-yes.ensures.err

pub named_branch-returns-in_err-no-clause-err : goal.named_branch-returns-in_err-no-clause-err
named_branch-returns-in_err-no-clause-err t c =
    let a = around_of (find c.args.around.now.file.now) (find c.args.around.now.states.now) (find c.args.around.now.emitters.now) in
    branch_third a c.args.scope.now c.args.at c.args.test.now c.args.yes_at c.args.yes.now c.args.no_at c.args.no.now _ c.in_ok-yes.ensures.scope _ _ c.from_residual-in_err-no.ensures.1 c.in_ok-test.ensures.ok.0 c.in_ok-yes.ensures.ok.0 c.in_err-no.ensures.err

pub named_branch-returns-clause-ok : goal.named_branch-returns-clause-ok
named_branch-returns-clause-ok t c =
    let a = around_of (find c.args.around.now.file.now) (find c.args.around.now.states.now) (find c.args.around.now.emitters.now) in
    branch_made a c.args.scope.now c.args.at c.args.test.now c.args.yes_at c.args.yes.now c.args.no_at c.args.no.now _ c.in_ok-yes.ensures.scope _ _ _ c.in_ok-test.ensures.ok c.in_ok-yes.ensures.ok c.in_ok-no.ensures.ok

pub name_stmts-name_stmt-requires : goal.name_stmts-name_stmt-requires
name_stmts-name_stmt-requires t c = (omega (arith, all_size_at _ _ _ c.stmt-item.is c.loop-stmt-test.true), tt)

pub name_stmt-named_branch-requires : goal.name_stmt-named_branch-requires
name_stmt-named_branch-requires t c = (omega (arith, branch_size _ _ _ _ _ _ _ _ _ c.in-Branch.is c.as_slice-yes.ensures c.as_slice-no.ensures), tt)

pub name_stmt-named_loop-requires : goal.name_stmt-named_loop-requires
name_stmt-named_loop-requires t c = (omega (arith, loop_size _ _ _ _ _ _ c.in-Loop.is c.as_slice.ensures), tt)
