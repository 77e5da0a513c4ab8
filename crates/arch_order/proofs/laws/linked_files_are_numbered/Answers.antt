use Rattle.arch_order.proofs.Handlers.{numbered}
use Rattle.arch_order.proofs.laws.linked_files_are_numbered.Goals as goal

pub returns : goal.returns
returns c = numbered
