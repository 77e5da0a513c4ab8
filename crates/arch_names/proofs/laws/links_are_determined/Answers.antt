use Rattle.arch_names.proofs.Once.{linked_once}
use Rattle.arch_names.proofs.laws.links_are_determined.Goals as goal

pub returns : goal.returns
returns c = linked_once
