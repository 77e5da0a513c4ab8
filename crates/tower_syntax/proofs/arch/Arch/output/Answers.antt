use Rattle.std.proofs.Common.{◌<◌, length}
use Rattle.tower_syntax.specs.View.{output_of}
use Rattle.tower_syntax.proofs.Elements.{kept}
use Rattle.tower_syntax.proofs.arch.Arch.output.Goals as goal

pub returns-clause-numbered : goal.returns-clause-numbered
returns-clause-numbered c = kept (λ o. o.channel < length c.args.self.now.channels) output_of _ _ _ _ c.outputs.ensures.value c.outputs.ensures.numbered.outputs c.index-outputs-o.is c.requires
