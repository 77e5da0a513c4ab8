use Rattle.std.proofs.Common.{◌≡◌, length, arith}
use Rattle.channel_graph.proofs.Led.{channel_below}
use Rattle.channel_graph.proofs.Sounded.{emitter_more, emitters_end}
use Rattle.channel_graph.proofs.depths.deepest_emitter.Goals as goal

pub bounds-depths-emitter : goal.bounds-depths-emitter
bounds-depths-emitter c =
    omega (arith, c.requires.channels, channel_below c.args.arch.now c.handler.result.now c.as_slice-emitter-items.result.now c.loop-emitter.emitter-index c.emitter-item.result c.handler.ensures.numbered c.as_slice-emitter-items.ensures c.loop-emitter-test.true c.emitter-item.is)

pub loop-emitter-preserved : goal.loop-emitter-preserved
loop-emitter-preserved c =
    emitter_more c.args.arch.now c.args.k c.handler.result.now c.as_slice-emitter-items.result.now c.loop-emitter.emitter-index c.emitter-item.result c.args.depths.now c.loop-emitter.deepest c.max-deepest.result c.handler.ensures.value c.as_slice-emitter-items.ensures c.loop-emitter-test.true c.emitter-item.is c.loop-emitter.invariant (omega (arith, c.if-depth-eq0.false)) c.max-deepest.ensures

pub returns : goal.returns
returns c =
    let items = c.as_slice-emitter-items.result.now in
    let end : c.loop-emitter.emitter-index ≡ length items = omega arith in
    emitters_end c.args.arch.now c.args.k c.handler.result.now items c.loop-emitter.emitter-index c.args.depths.now c.loop-emitter.deepest c.handler.ensures.value c.as_slice-emitter-items.ensures end c.loop-emitter.invariant
