use Rattle.std.proofs.Common.{refl, arith}
use Rattle.arch_names.proofs.ExprRows.{bin_first, bin_second, bin_made, choose_first, choose_second, choose_third, choose_made, cast_first, cast_second, cast_made, index_first, index_second, index_made}
use Rattle.arch_names.proofs.Sizes.{read_size, un_size, bin_size, choose_size, cast_size}
use Rattle.arch_names.proofs.exprs.+exprs.Goals as goal

pub named_bin-returns-in_err-a-clause-err : goal.named_bin-returns-in_err-a-clause-err
named_bin-returns-in_err-a-clause-err t c = bin_first _ _ _ _ _ _ _ _ _ refl refl refl _ _ c.from_residual.ensures.1 c.in_err-a.ensures.err

pub named_bin-returns-in_err-b-clause-err : goal.named_bin-returns-in_err-b-clause-err
named_bin-returns-in_err-b-clause-err t c = bin_second _ _ _ _ _ _ _ _ _ refl refl refl _ _ c.from_residual-in_err-b.ensures.1 c.in_ok-a.ensures.ok.0 c.in_err-b.ensures.err

pub named_bin-returns-clause-ok : goal.named_bin-returns-clause-ok
named_bin-returns-clause-ok t c = bin_made _ _ _ _ _ _ _ _ _ refl refl refl _ _ c.in_ok-a.ensures.ok c.in_ok-b.ensures.ok

pub named_cond-returns-in_err-test-clause-err : goal.named_cond-returns-in_err-test-clause-err
named_cond-returns-in_err-test-clause-err t c = choose_first _ _ _ _ _ _ _ _ _ _ refl refl refl refl _ _ c.from_residual.ensures.1 c.in_err-test.ensures.err

pub named_cond-returns-in_err-yes-clause-err : goal.named_cond-returns-in_err-yes-clause-err
named_cond-returns-in_err-yes-clause-err t c = choose_second _ _ _ _ _ _ _ _ _ _ refl refl refl refl _ _ c.from_residual-in_err-yes.ensures.1 c.in_ok-test.ensures.ok.0 c.in_err-yes.ensures.err

pub named_cond-returns-in_err-no-clause-err : goal.named_cond-returns-in_err-no-clause-err
named_cond-returns-in_err-no-clause-err t c = choose_third _ _ _ _ _ _ _ _ _ _ refl refl refl refl _ _ c.from_residual-in_err-no.ensures.1 c.in_ok-test.ensures.ok.0 c.in_ok-yes.ensures.ok.0 c.in_err-no.ensures.err

pub named_cond-returns-clause-ok : goal.named_cond-returns-clause-ok
named_cond-returns-clause-ok t c = choose_made _ _ _ _ _ _ _ _ _ _ refl refl refl refl _ _ _ c.in_ok-test.ensures.ok c.in_ok-yes.ensures.ok c.in_ok-no.ensures.ok

pub named_cast-returns-in_err-ty-clause-err : goal.named_cast-returns-in_err-ty-clause-err
named_cast-returns-in_err-ty-clause-err t c = cast_first _ _ _ _ _ _ _ _ refl refl refl _ _ c.from_residual.ensures.1 c.in_err-ty.ensures.err

pub named_cast-returns-in_err-a-clause-err : goal.named_cast-returns-in_err-a-clause-err
named_cast-returns-in_err-a-clause-err t c = cast_second _ _ _ _ _ _ _ _ refl refl refl _ _ c.from_residual-in_err-a.ensures.1 c.in_ok-ty.ensures.ok.0 c.in_err-a.ensures.err

pub named_cast-returns-clause-ok : goal.named_cast-returns-clause-ok
named_cast-returns-clause-ok t c = cast_made _ _ _ _ _ _ _ _ refl refl refl _ _ c.in_ok-ty.ensures.ok c.in_ok-a.ensures.ok

pub name_place-returns-in_err-base-in-At-clause-err : goal.name_place-returns-in_err-base-in-At-clause-err
name_place-returns-in_err-base-in-At-clause-err t c = index_first _ _ _ _ _ _ _ _ c.in-At.is c.get-in-At.ensures refl _ _ c.from_residual-in_err-base-in-At.ensures.1 c.in_err-base-in-At.ensures.err

pub name_place-returns-in_err-index-in-At-clause-err : goal.name_place-returns-in_err-index-in-At-clause-err
name_place-returns-in_err-index-in-At-clause-err t c = index_second _ _ _ _ _ _ _ _ c.in-At.is c.get-in-At.ensures c.get-in-At-2.ensures _ _ c.from_residual-in_err-index-in-At.ensures.1 c.in_ok-base-in-At.ensures.ok.0 c.in_err-index-in-At.ensures.err

pub name_place-returns-in_ok-index-in-At-2-clause-ok : goal.name_place-returns-in_ok-index-in-At-2-clause-ok
name_place-returns-in_ok-index-in-At-2-clause-ok t c = index_made _ _ _ _ _ _ _ _ c.in-At.is c.get-in-At.ensures c.get-in-At-2.ensures _ _ _ _ c.in_ok-base-in-At-2.ensures c.in_ok-index-in-At-2.ensures c.in_ok-base-in-At.ensures.ok c.in_ok-index-in-At.ensures.ok

pub name_expr-name_place-requires : goal.name_expr-name_place-requires
name_expr-name_place-requires t c = (omega (arith, read_size _ _ c.in-Read.is), tt)

pub name_expr-named_un-requires : goal.name_expr-named_un-requires
name_expr-named_un-requires t c = (omega (arith, un_size _ _ _ _ _ c.in-Un.is c.get.ensures), tt)

pub name_expr-named_bin-requires : goal.name_expr-named_bin-requires
name_expr-named_bin-requires t c = (omega (arith, bin_size _ _ _ _ _ _ _ c.in-Bin.is c.get-in-Bin.ensures c.get-in-Bin-2.ensures), tt)

pub name_expr-named_cond-requires : goal.name_expr-named_cond-requires
name_expr-named_cond-requires t c = (omega (arith, choose_size _ _ _ _ _ _ _ _ c.in-Cond.is c.get-in-Cond.ensures c.get-yes.ensures c.get-no.ensures), tt)

pub name_expr-named_cast-requires : goal.name_expr-named_cast-requires
name_expr-named_cast-requires t c = (omega (arith, cast_size _ _ _ _ _ c.in-Cast.is c.get-in-Cast.ensures), tt)
