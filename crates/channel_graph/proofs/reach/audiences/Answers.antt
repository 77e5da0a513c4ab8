use Rattle.std.proofs.Common.{◌<◌, length, arith, ap, sym, subst}
use Rattle.tower_syntax.specs.View.{handler_of}
use Rattle.tower_syntax.specs.WellNumbered.{IsNumberedHandler}
use Rattle.tower_syntax.proofs.Elements.{kept}
use Rattle.channel_graph.specs.Reaching.{HearsMore}
use Rattle.channel_graph.proofs.Searched.{handler_at, hears_more, within_on}
use Rattle.std.proofs.lemmas.List.{length-map}
use Rattle.channel_graph.proofs.reach.audiences.Goals as goal

pub add-requires : goal.add-requires
add-requires c =
    let arch = c.args.arch.now in
    let items = c.handlers-handler-items.result.now in
    let k = c.loop-k.k in
    let within : k < length arch.handlers = omega (arith, c.loop-k-test.true, ap length c.handlers-handler-items.ensures.value, length-map items handler_of) in
    let numbered = kept (IsNumberedHandler arch) handler_of items arch.handlers k c.handler-item.result c.handlers-handler-items.ensures.value c.handlers-handler-items.ensures.numbered.handlers c.handler-item.is within in
    within_on arch (length c.loop-k.heard.items) c.handler-item.result.on c.loop-k.invariant.each numbered.on

pub loop-k-preserved : goal.loop-k-preserved
loop-k-preserved c =
    let arch = c.args.arch.now in
    let old = c.loop-k.heard.items in
    let new = c.add.new.heard.items in
    let k = c.loop-k.k in
    let read = handler_at arch c.handlers-handler-items.result.now k c.handler-item.result c.handlers-handler-items.ensures.value c.loop-k-test.true c.handler-item.is in
    hears_more arch k old new c.loop-k.invariant (subst (λ o. HearsMore old o k new) (sym (ap (λ h. h.on) read)) c.in_ok-add.ensures)
