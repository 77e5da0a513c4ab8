use Rattle.std.proofs.Common.{length}
use Rattle.tower_syntax.specs.View.{channel_of}
use Rattle.tower_syntax.specs.WellNumbered.{IsNumberedType}
use Rattle.tower_syntax.proofs.Elements.{kept}
use Rattle.tower_syntax.proofs.arch.Arch.channel.Goals as goal

pub returns-clause-numbered : goal.returns-clause-numbered
returns-clause-numbered c = kept (λ x. IsNumberedType (length c.args.self.now.records) x.message) channel_of _ _ _ _ c.channels.ensures.value c.channels.ensures.numbered.channels c.index-channels-c.is c.requires
