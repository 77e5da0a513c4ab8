use Rattle.channel_graph.proofs.laws.deliver_law.Goals as goal
use Rattle.channel_graph.proofs.Recursed.{deliver_recurs, deliver_is_only, cost_follows}

pub returns-clause-recurs : goal.returns-clause-recurs
returns-clause-recurs c = deliver_recurs

pub returns-clause-only : goal.returns-clause-only
returns-clause-only c = deliver_is_only

pub returns-clause-cost : goal.returns-clause-cost
returns-clause-cost c = cost_follows
