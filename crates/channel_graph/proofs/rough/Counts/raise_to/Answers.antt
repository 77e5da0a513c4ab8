use Rattle.channel_graph.specs.Rough.{same}
use Rattle.channel_graph.proofs.Roughly.{logs_change}
use Rattle.channel_graph.proofs.rough.Counts.raise_to.Goals as goal

pub returns-in_ok-change-clause-log : goal.returns-in_ok-change-clause-log
returns-in_ok-change-clause-log c = logs_change c.args.peak.place c.args.peak.total c.args.self.now c.change.new.self c.in_ok-change.ensures

pub returns-else-total-peak-clause-log : goal.returns-else-total-peak-clause-log
returns-else-total-peak-clause-log c = same
