use Rattle.channel_graph.specs.Rough.{same}
use Rattle.channel_graph.proofs.Roughly.{tops_none, tops_more, logs_then}
use Rattle.channel_graph.proofs.rough.Counts.raise.Goals as goal

pub loop-peak-init : goal.loop-peak-init
loop-peak-init c = (tops_none c.args.self.now.totals, same)

pub loop-peak-preserved : goal.loop-peak-preserved
loop-peak-preserved c =
    let old = c.loop-peak.self in
    let new = c.raise_to.new.self in (
      tops_more c.args.self.now.totals old.totals new.totals c.args.peaks.now c.loop-peak.peak-index _ c.loop-peak-test.true c.loop-peak.invariant.0 c.in_ok-raise_to.ensures.totals,
      logs_then c.args.self.now old new c.loop-peak.invariant.1 c.in_ok-raise_to.ensures.log,
    )
