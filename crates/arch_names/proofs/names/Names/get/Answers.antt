use Rattle.std.proofs.Common.{◌∙◌}
use Rattle.arch_names.proofs.Trees.{found}
use Rattle.arch_names.proofs.names.Names.get.Goals as goal

pub returns : goal.returns
returns g c = c.copied.ensures ∙ c.get.ensures.value ∙ found (λ k. k.items) _ _ _ c.self.view_is c.self.invariant _ _ c.bytes.ensures.value
