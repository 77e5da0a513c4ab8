use Rattle.tower_syntax.specs.View.{source_of}
use Rattle.tower_syntax.specs.WellNumbered.{IsNumberedSource}
use Rattle.tower_syntax.proofs.Elements.{kept}
use Rattle.tower_syntax.proofs.arch.Arch.source.Goals as goal

pub returns-clause-numbered : goal.returns-clause-numbered
returns-clause-numbered c = kept (IsNumberedSource c.args.self.now) source_of _ _ _ _ c.sources.ensures.value c.sources.ensures.numbered.sources c.index-sources-s.is c.requires
