use Rattle.tower_gen.proofs.Computed
use Rattle.tower_gen.proofs.laws.computed.Goals as goal

pub returns-clause-memory : goal.returns-clause-memory
returns-clause-memory c = Computed.memory

pub returns-clause-widths : goal.returns-clause-widths
returns-clause-widths c = Computed.widths

pub returns-clause-items : goal.returns-clause-items
returns-clause-items c = Computed.worked_items
