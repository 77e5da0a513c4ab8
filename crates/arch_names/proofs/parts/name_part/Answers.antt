use Rattle.arch_names.proofs.PartRows.{handler_exit, handler_made}
use Rattle.arch_names.proofs.parts.name_part.Goals as goal

pub returns-in_err-parts-in-Handler-clause-err : goal.returns-in_err-parts-in-Handler-clause-err
returns-in_err-parts-in-Handler-clause-err c = handler_exit _ _ _ _ _ _ _ _ c.in-Handler.is c.as_slice.ensures _ _ c.from_residual-in_err-parts-in-Handler.ensures.1 c.in_ok-declared_once-in-Handler.ensures.ok c.in_ok-on-in-Handler.ensures.ok.0 c.in_err-parts-in-Handler.ensures.err

pub returns-in_ok-name-in-Handler-clause-ok : goal.returns-in_ok-name-in-Handler-clause-ok
returns-in_ok-name-in-Handler-clause-ok c = handler_made _ _ _ _ _ _ _ _ c.in-Handler.is c.as_slice.ensures _ _ _ c.in_ok-name-in-Handler.ensures c.in_ok-declared_once-in-Handler.ensures.ok c.in_ok-on-in-Handler.ensures.ok c.in_ok-parts-in-Handler.ensures.ok
