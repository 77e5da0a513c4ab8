use Rattle.arch_names.specs.Names.{find}
use Rattle.arch_names.specs.Sites.{field_sites}
use Rattle.arch_names.proofs.Gone.{exit_alike}
use Rattle.arch_names.proofs.parts.name_fields.Goals as goal

pub returns-in_err-made-clause-err : goal.returns-in_err-made-clause-err
returns-in_err-made-clause-err c = exit_alike (field_sites (find c.args.file.now) c.args.record_at) _ _ _ c.in_ok-names.ensures _ _ c.from_residual-in_err-made.ensures.1 c.in_err-made.ensures.err
