use Rattle.std.proofs.Common.{◌≡◌, length, arith, subst}
use Rattle.channel_graph.specs.Ranking.{IsNearer, nearest_at}
use Rattle.channel_graph.proofs.Led.{channel_below}
use Rattle.channel_graph.proofs.Ahead.{first_more, ahead_of}
use Rattle.channel_graph.proofs.ranking.ahead.Goals as goal

pub bounds-nearest-emitter : goal.bounds-nearest-emitter
bounds-nearest-emitter c =
    omega (arith, c.requires.each, channel_below c.args.arch.now c.handler.result.now c.as_slice-emitter-items.result.now c.loop-emitter.emitter-index c.emitter-item.result c.handler.ensures.numbered c.as_slice-emitter-items.ensures c.loop-emitter-test.true c.emitter-item.is)

pub loop-emitter-preserved : goal.loop-emitter-preserved
loop-emitter-preserved c =
    let table = c.args.nearest.now in
    let items = c.as_slice-emitter-items.result.now in
    let next = subst (λ e. IsNearer c.loop-emitter.best (nearest_at table e.channel) c.nearer-best.result) c.emitter-item.is c.nearer-best.ensures in
    first_more table items c.loop-emitter.emitter-index c.emitter-item.result c.loop-emitter.best c.nearer-best.result c.loop-emitter-test.true c.loop-emitter.invariant next

pub returns : goal.returns
returns c ranks known =
    let items = c.as_slice-emitter-items.result.now in
    let end : c.loop-emitter.emitter-index ≡ length items = omega arith in
    ahead_of c.args.arch.now ranks c.args.k c.handler.result.now items c.loop-emitter.emitter-index c.args.nearest.now c.loop-emitter.best c.requires.listed c.handler.ensures.numbered c.handler.ensures.value c.as_slice-emitter-items.ensures end c.loop-emitter.invariant known
