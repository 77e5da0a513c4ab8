use Rattle.arch_names.specs.Names.{find}
use Rattle.arch_names.specs.Sites.{around_of}
use Rattle.arch_names.proofs.StmtRows.{copy_first, copy_second, copy_made}
use Rattle.arch_names.proofs.stmts.named_copy.Goals as goal

pub returns-in_err-to-clause-err : goal.returns-in_err-to-clause-err
returns-in_err-to-clause-err c =
    let a = around_of (find c.args.around.now.file.now) (find c.args.around.now.states.now) (find c.args.around.now.emitters.now) in
    copy_first a c.args.scope.now c.args.at c.args.to.now c.args.from.now _ _ c.from_residual.ensures.1 c.in_err-to.ensures.err

pub returns-in_err-from-clause-err : goal.returns-in_err-from-clause-err
returns-in_err-from-clause-err c =
    let a = around_of (find c.args.around.now.file.now) (find c.args.around.now.states.now) (find c.args.around.now.emitters.now) in
    copy_second a c.args.scope.now c.args.at c.args.to.now c.args.from.now _ _ c.from_residual-in_err-from.ensures.1 c.in_ok-to.ensures.ok.0 c.in_err-from.ensures.err

pub returns-clause-ok : goal.returns-clause-ok
returns-clause-ok c =
    let a = around_of (find c.args.around.now.file.now) (find c.args.around.now.states.now) (find c.args.around.now.emitters.now) in
    copy_made a c.args.scope.now c.args.at c.args.to.now c.args.from.now _ _ c.in_ok-to.ensures.ok c.in_ok-from.ensures.ok
