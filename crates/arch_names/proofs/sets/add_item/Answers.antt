use Rattle.arch_names.proofs.ItemRows.{monitor_names}
use Rattle.arch_names.proofs.sets.add_item.Goals as goal

pub returns-in_ok-add_handlers-in-Monitor-clause-names : goal.returns-in_ok-add_handlers-in-Monitor-clause-names
returns-in_ok-add_handlers-in-Monitor-clause-names c = monitor_names _ _ _ _ _ _ _ _ _ c.in-Monitor.is c.as_slice.ensures c.in_ok-declare-in-Monitor.ensures c.in_ok-add_handlers-in-Monitor.ensures
