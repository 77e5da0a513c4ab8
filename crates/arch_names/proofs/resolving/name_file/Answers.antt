use Rattle.arch_names.proofs.Whole.{file_exit, file_made}
use Rattle.arch_names.proofs.resolving.name_file.Goals as goal

pub returns-in_err-items-clause-err : goal.returns-in_err-items-clause-err
returns-in_err-items-clause-err c = file_exit c.args.raw.now _ _ _ c.as_slice.ensures c.as_slice-2.ensures c.in_ok-file.ensures _ _ c.from_residual-in_err-items.ensures.1 c.in_err-items.ensures.err

pub returns-clause-ok : goal.returns-clause-ok
returns-clause-ok c = file_made c.args.raw.now _ _ _ c.as_slice.ensures c.as_slice-2.ensures c.in_ok-file.ensures _ _ c.in_ok-name.ensures c.in_ok-items.ensures.ok
