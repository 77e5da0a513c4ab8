use Rattle.std.proofs.Common.{arith}
use Rattle.arch_types.proofs.Sizes.{read_size, un_size, bin_size, choose_size, cast_size}
use Rattle.arch_types.proofs.exprs.+exprs.Goals as goal

pub check_expr-check_place-requires : goal.check_expr-check_place-requires
check_expr-check_place-requires t c = (omega (arith, read_size _ _ c.in-Read.is), tt)

pub check_expr-check_un-requires : goal.check_expr-check_un-requires
check_expr-check_un-requires t c = (omega (arith, un_size _ _ _ _ _ c.in-Un.is c.get.ensures), tt)

pub check_expr-check_bin-requires : goal.check_expr-check_bin-requires
check_expr-check_bin-requires t c = (omega (arith, bin_size _ _ _ _ _ _ _ c.in-Bin.is c.get-in-Bin.ensures c.get-in-Bin-2.ensures), tt)

pub check_expr-check_cond-requires : goal.check_expr-check_cond-requires
check_expr-check_cond-requires t c = (omega (arith, choose_size _ _ _ _ _ _ _ _ c.in-Cond.is c.get-in-Cond.ensures c.get-yes.ensures c.get-no.ensures), tt)

pub check_expr-check_cast-requires : goal.check_expr-check_cast-requires
check_expr-check_cast-requires t c = (omega (arith, cast_size _ _ _ _ _ c.in-Cast.is c.get-in-Cast.ensures), tt)
