use Rattle.channel_graph.proofs.Roughly.{logs_change}
use Rattle.channel_graph.proofs.rough.Counts.add.Goals as goal

pub returns-clause-log : goal.returns-clause-log
returns-clause-log c = logs_change c.args.k c.saturating_add-total.result c.args.self.now c.change.new.self c.in_ok-change.ensures
