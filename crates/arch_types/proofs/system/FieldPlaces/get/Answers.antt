use Rattle.std.proofs.Common.{◌∙◌}
use Rattle.arch_types.proofs.Finding.{found}
use Rattle.arch_types.proofs.system.FieldPlaces.get.Goals as goal

pub returns : goal.returns
returns c = c.copied.ensures ∙ c.get.ensures.value ∙ found (λ k. k.items) _ _ c.self.view_is _ _ c.bytes.ensures.value
