use Rattle.std.proofs.Common.{◌<◌, ◌≤◌, [], length, arith}
use Rattle.channel_graph.proofs.Roughly.{covers_then, undone_more, all_undone}
use Rattle.channel_graph.proofs.rough.Counts.take_back.Goals as goal

pub loop-change-preserved : goal.loop-change-preserved
loop-change-preserved c =
    let from = c.args.self.now in
    let old = c.loop-change.self in
    let new = c.undo.new.self in
    let within : c.loop-change._change < length from.log = omega (arith, c.loop-change-test.true, c.len-change-end.ensures) in (
      covers_then from.totals old.totals new.totals [] c.loop-change.peaks c.undo.new.peaks c.loop-change.invariant.0 c.in_ok-undo.ensures.peaks,
      λ start logs mark. undone_more start from old new c.args.mark c.loop-change._change (c.loop-change.invariant.1 start logs mark) mark within c.in_ok-undo.ensures.back,
    )

pub returns-clause-back : goal.returns-clause-back
returns-clause-back c start logs mark =
    let last = c.loop-change.self in
    let kept = c.loop-change.invariant.1 start logs mark in
    let short : length last.log ≤ length start.log = omega (arith, kept.1, mark, c.loop-change-test.false, c.len-change-end.ensures) in
    all_undone start last kept.0 short
