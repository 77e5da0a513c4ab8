use Rattle.arch_order.proofs.InOrder.{names_ascend}
use Rattle.arch_order.proofs.LinkedOrder.{linked_ascends}
use Rattle.arch_order.proofs.laws.read_files_ascend.Goals as goal

pub returns-clause-read : goal.returns-clause-read
returns-clause-read c = names_ascend

pub returns-clause-linked : goal.returns-clause-linked
returns-clause-linked c = linked_ascends
