use Rattle.arch_names.proofs.Trees.{none_yet}
use Rattle.arch_names.proofs.names.Names.new.Goals as goal

pub invariant_of-result : goal.invariant_of-result
invariant_of-result g c = none_yet (λ k. k.items) _ _ c.new-2.ensures.empty c.new.ensures
