use Rattle.tower_syntax.specs.View.{handler_of}
use Rattle.tower_syntax.specs.WellNumbered.{IsNumberedHandler}
use Rattle.tower_syntax.proofs.Elements.{kept}
use Rattle.tower_syntax.proofs.arch.Arch.handler.Goals as goal

pub returns-clause-numbered : goal.returns-clause-numbered
returns-clause-numbered c = kept (IsNumberedHandler c.args.self.now) handler_of _ _ _ _ c.handlers.ensures.value c.handlers.ensures.numbered.handlers c.index-handlers-h.is c.requires
