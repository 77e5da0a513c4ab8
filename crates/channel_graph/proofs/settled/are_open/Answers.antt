use Rattle.std.proofs.Common.{◌≡◌, length, arith, subst}
use Rattle.channel_graph.specs.Reaching.{IsMarked}
use Rattle.channel_graph.proofs.Led.{channel_below}
use Rattle.channel_graph.proofs.Searched.{open_more, all_open}
use Rattle.channel_graph.proofs.settled.are_open.Goals as goal

pub bounds-channels-emitter : goal.bounds-channels-emitter
bounds-channels-emitter c =
    omega (arith, c.requires.channels, channel_below c.args.arch.now c.handler.result.now c.as_slice-emitter-items.result.now c.loop-emitter.emitter-index c.emitter-item.result c.handler.ensures.numbered c.as_slice-emitter-items.ensures c.loop-emitter-test.true c.emitter-item.is)

pub loop-emitter-preserved : goal.loop-emitter-preserved
loop-emitter-preserved c =
    let marks = c.args.channels.now in
    let here = subst (λ e. IsMarked marks e.channel) c.emitter-item.is c.if-not-channels-emitter.false in
    open_more marks c.as_slice-emitter-items.result.now c.loop-emitter.emitter-index c.emitter-item.result c.loop-emitter-test.true c.loop-emitter.invariant here

pub returns : goal.returns
returns c yes' =
    let items = c.as_slice-emitter-items.result.now in
    let end : c.loop-emitter.emitter-index ≡ length items = omega arith in
    all_open c.args.arch.now c.args.k c.handler.result.now items c.loop-emitter.emitter-index c.args.channels.now c.handler.ensures.value c.as_slice-emitter-items.ensures end c.loop-emitter.invariant
