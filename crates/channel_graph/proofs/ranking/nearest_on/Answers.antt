use Rattle.std.proofs.Common.{◌<◌, length, arith, ap, sym}
use Rattle.std.proofs.lemmas.List.{length-map}
use Rattle.tower_syntax.specs.View.{handler_of}
use Rattle.tower_syntax.specs.WellNumbered.{IsNumberedHandler}
use Rattle.tower_syntax.proofs.Elements.{kept}
use Rattle.channel_graph.proofs.Searched.{handler_at, within_on}
use Rattle.channel_graph.proofs.Ahead.{nearest_more}
use Rattle.channel_graph.proofs.ranking.nearest_on.Goals as goal

pub add-requires : goal.add-requires
add-requires c =
    let arch = c.args.arch.now in
    let items = c.handlers-handler-items.result.now in
    let k = c.loop-k.k in
    let within : k < length arch.handlers = omega (arith, c.loop-k-test.true, ap length c.handlers-handler-items.ensures.value, length-map items handler_of) in
    let numbered = kept (IsNumberedHandler arch) handler_of items arch.handlers k c.handler-item.result c.handlers-handler-items.ensures.value c.handlers-handler-items.ensures.numbered.handlers c.handler-item.is within in
    within_on arch (length c.loop-k.nearest) c.handler-item.result.on c.loop-k.invariant.each numbered.on

pub loop-k-preserved : goal.loop-k-preserved
loop-k-preserved c =
    let arch = c.args.arch.now in
    let ranks = c.args.ranks.now in
    let items = c.handlers-handler-items.result.now in
    let k = c.loop-k.k in
    let old = c.loop-k.nearest in
    let o = c.handler-item.result.on in
    let within : k < length arch.handlers = omega (arith, c.loop-k-test.true, ap length c.handlers-handler-items.ensures.value, length-map items handler_of) in
    let numbered = kept (IsNumberedHandler arch) handler_of items arch.handlers k c.handler-item.result c.handlers-handler-items.ensures.value c.handlers-handler-items.ensures.numbered.handlers c.handler-item.is within in
    let inside = within_on arch (length old) o c.loop-k.invariant.each numbered.on in
    let read = handler_at arch items k c.handler-item.result c.handlers-handler-items.ensures.value c.loop-k-test.true c.handler-item.is in
    nearest_more arch ranks k old c.add.new.nearest o (sym (ap (λ h. h.on) read)) inside c.loop-k.invariant c.add.ensures
