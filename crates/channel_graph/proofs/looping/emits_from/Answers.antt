use Rattle.std.proofs.Common.{◌≡◌, ◌≤◌, ◌+◌, length, get_or, arith, ap, subst}
use Rattle.std.proofs.lemmas.List.{length-map}
use Rattle.tower_syntax.specs.View.{handler_of}
use Rattle.channel_graph.specs.Levels.{channel_level}
use Rattle.channel_graph.proofs.Led.{channel_below, emitters_read}
use Rattle.channel_graph.proofs.Leveled.{from_more, all_from}
use Rattle.channel_graph.proofs.looping.emits_from.Goals as goal

pub bounds-levels-first : goal.bounds-levels-first
bounds-levels-first c =
    omega (arith, c.requires.levels, ap length c.handlers-first.ensures.value, length-map c.handlers-first.result.now handler_of, channel_below c.args.arch.now c.handler.result.now c.as_slice-emitter-items.result.now c.loop-emitter.emitter-index c.emitter-item.result c.handler.ensures.numbered c.as_slice-emitter-items.ensures c.loop-emitter-test.true c.emitter-item.is)

pub loop-emitter-preserved : goal.loop-emitter-preserved
loop-emitter-preserved c =
    let arch = c.args.arch.now in
    let levels = c.args.levels.now in
    let first : length c.handlers-first.result.now ≡ length arch.handlers = omega (arith, ap length c.handlers-first.ensures.value, length-map c.handlers-first.result.now handler_of) in
    let high : c.args.level ≤ channel_level arch levels c.emitter-item.result.channel = subst (λ n. c.args.level ≤ get_or levels (n + c.emitter-item.result.channel) 0) first c.if-levels-first.false in
    let here = subst (λ e. c.args.level ≤ channel_level arch levels e.channel) c.emitter-item.is high in
    from_more arch levels c.args.level c.as_slice-emitter-items.result.now c.loop-emitter.emitter-index c.emitter-item.result c.loop-emitter-test.true c.loop-emitter.invariant here

pub returns : goal.returns
returns c yes' =
    let items = c.as_slice-emitter-items.result.now in
    let end : c.loop-emitter.emitter-index ≡ length items = omega arith in
    all_from c.args.arch.now c.args.levels.now c.args.level c.args.k items c.loop-emitter.emitter-index (emitters_read c.args.arch.now c.args.k c.handler.result.now items c.handler.ensures.value c.as_slice-emitter-items.ensures) end c.loop-emitter.invariant
