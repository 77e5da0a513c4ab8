use Rattle.std.proofs.Common.{◌≡◌, length, arith}
use Rattle.channel_graph.proofs.Led.{channel_below, heard_yes, heard_no}
use Rattle.channel_graph.proofs.circuit.is_heard.Goals as goal

pub bounds-loud-emitter : goal.bounds-loud-emitter
bounds-loud-emitter c =
    omega (arith, c.requires.each, channel_below c.args.arch.now c.handler.result.now c.as_slice-emitter-items.result.now c.loop-emitter.emitter-index c.emitter-item.result c.handler.ensures.numbered c.as_slice-emitter-items.ensures c.loop-emitter-test.true c.emitter-item.is)

pub returns-then-loud-emitter : goal.returns-then-loud-emitter
returns-then-loud-emitter c =
    heard_yes c.args.arch.now c.args.loud.now c.args.k c.handler.result.now c.as_slice-emitter-items.result.now c.loop-emitter.emitter-index c.emitter-item.result c.handler.ensures.value c.as_slice-emitter-items.ensures c.loop-emitter-test.true c.emitter-item.is c.if-loud-emitter.true

pub returns : goal.returns
returns c =
    let items = c.as_slice-emitter-items.result.now in
    let end : c.loop-emitter.emitter-index ≡ length items = omega arith in
    heard_no c.args.arch.now c.args.loud.now c.args.k c.handler.result.now items c.loop-emitter.emitter-index c.handler.ensures.value c.as_slice-emitter-items.ensures end c.loop-emitter.invariant
