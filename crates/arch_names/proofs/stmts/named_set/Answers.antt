use Rattle.arch_names.specs.Names.{find}
use Rattle.arch_names.specs.Sites.{around_of}
use Rattle.arch_names.proofs.StmtRows.{set_first, set_second, set_made}
use Rattle.arch_names.proofs.stmts.named_set.Goals as goal

pub returns-in_err-place-clause-err : goal.returns-in_err-place-clause-err
returns-in_err-place-clause-err c =
    let a = around_of (find c.args.around.now.file.now) (find c.args.around.now.states.now) (find c.args.around.now.emitters.now) in
    set_first a c.args.scope.now c.args.at c.args.place.now c.args.value.now _ _ c.from_residual.ensures.1 c.in_err-place.ensures.err

pub returns-in_err-value-clause-err : goal.returns-in_err-value-clause-err
returns-in_err-value-clause-err c =
    let a = around_of (find c.args.around.now.file.now) (find c.args.around.now.states.now) (find c.args.around.now.emitters.now) in
    set_second a c.args.scope.now c.args.at c.args.place.now c.args.value.now _ _ c.from_residual-in_err-value.ensures.1 c.in_ok-place.ensures.ok.0 c.in_err-value.ensures.err

pub returns-clause-ok : goal.returns-clause-ok
returns-clause-ok c =
    let a = around_of (find c.args.around.now.file.now) (find c.args.around.now.states.now) (find c.args.around.now.emitters.now) in
    set_made a c.args.scope.now c.args.at c.args.place.now c.args.value.now _ _ c.in_ok-place.ensures.ok c.in_ok-value.ensures.ok
