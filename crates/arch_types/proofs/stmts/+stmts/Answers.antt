use Rattle.std.proofs.Common.{arith}
use Rattle.arch_types.proofs.Sizes.{branch_size, loop_size, all_size_at}
use Rattle.arch_types.proofs.stmts.+stmts.Goals as goal

pub check_stmts-check_stmt-requires : goal.check_stmts-check_stmt-requires
check_stmts-check_stmt-requires t c = (omega (arith, all_size_at _ _ _ c.stmt-item.is c.loop-stmt-test.true), tt)

pub check_stmt-check_branch-requires : goal.check_stmt-check_branch-requires
check_stmt-check_branch-requires t c = (omega (arith, branch_size _ _ _ _ _ _ _ _ _ c.in-Branch.is c.as_slice-yes.ensures c.as_slice-no.ensures), tt)

pub check_stmt-check_loop-requires : goal.check_stmt-check_loop-requires
check_stmt-check_loop-requires t c = (omega (arith, loop_size _ _ _ _ _ _ c.in-Loop.is c.as_slice.ensures), tt)
