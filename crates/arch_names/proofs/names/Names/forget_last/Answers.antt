use Rattle.std.proofs.Common.{◌++◌, ◌∷◌, [], ◌∙◌, sym, ap}
use Rattle.arch_names.proofs.Trees.{forgets}
use Rattle.arch_names.proofs.names.Names.forget_last.Goals as goal

pub invariant_of-self : goal.invariant_of-self
invariant_of-self g c = forgets (λ k. k.items) _ _ _ _ c.bytes.result.now c.in-Some.field-0-1 (c.in-Some.ensures ∙ ap (λ n. c.pop.new.self ++ (n, c.in-Some.field-0-1) ∷ []) (sym c.bytes.ensures.value)) c.self.invariant c.remove.ensures.updates.1 c.remove.ensures.updates.3
