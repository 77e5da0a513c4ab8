use Rattle.std.proofs.Common.{◌≡◌, ◌<◌, ◌+◌, length, arith, ap, sym, subst}
use Rattle.std.proofs.lemmas.List.{length-map}
use Rattle.tower_syntax.specs.View.{handler_of}
use Rattle.tower_syntax.specs.WellNumbered.{IsNumberedHandler}
use Rattle.tower_syntax.proofs.Elements.{kept}
use Rattle.channel_graph.specs.Settled.{AreSpared}
use Rattle.channel_graph.proofs.Searched.{handler_at}
use Rattle.channel_graph.proofs.Peeled.{source_within, spared_done, spared_blot, clear_of}
use Rattle.channel_graph.proofs.settled.clear_sources.Goals as goal
use Rattle.channel_graph.proofs.settled.clear_sources.Goals.{then-not-done-k, else-not-done-k}

pub blot-requires : goal.blot-requires
blot-requires c =
    let arch = c.args.arch.now in
    let items = c.handlers-handler-items.result.now in
    let k = c.loop-k.k in
    let within : k < length arch.handlers = omega (arith, c.loop-k-test.true, ap length c.handlers-handler-items.ensures.value, length-map items handler_of) in
    let numbered = kept (IsNumberedHandler arch) handler_of items arch.handlers k c.handler-item.result c.handlers-handler-items.ensures.value c.handlers-handler-items.ensures.numbered.handlers c.handler-item.is within in
    source_within arch (length c.loop-k.clear) c.handler-item.result.on c.loop-k.invariant.each numbered.on

pub loop-k-preserved : goal.loop-k-preserved
loop-k-preserved c =
    let arch = c.args.arch.now in
    let done = c.args.done.now in
    let items = c.handlers-handler-items.result.now in
    let k = c.loop-k.k in
    let old = c.loop-k.clear in
    let o = c.handler-item.result.on in
    let within : k < length arch.handlers = omega (arith, c.loop-k-test.true, ap length c.handlers-handler-items.ensures.value, length-map items handler_of) in
    let numbered = kept (IsNumberedHandler arch) handler_of items arch.handlers k c.handler-item.result c.handlers-handler-items.ensures.value c.handlers-handler-items.ensures.numbered.handlers c.handler-item.is within in
    let inside = source_within arch (length old) o c.loop-k.invariant.each numbered.on in
    let read = handler_at arch items k c.handler-item.result c.handlers-handler-items.ensures.value c.loop-k-test.true c.handler-item.is in
    elim c.if-not-done-k.branch [
      | then-not-done-k w ↦
          subst (AreSpared arch done (k + 1)) (sym w.clear-is) (spared_blot arch done k old w.blot.new.clear o (sym (ap (λ h. h.on) read)) inside c.loop-k.invariant w.blot.ensures)
      | else-not-done-k w ↦
          subst (AreSpared arch done (k + 1)) (sym w.clear-is) (spared_done arch done k old c.loop-k.invariant w.if-not-done-k.false)
    ]

pub returns : goal.returns
returns c =
    let arch = c.args.arch.now in
    let end : c.loop-k.k ≡ length arch.handlers = omega (arith, c.loop-k-test.false, ap length c.handlers-handler-items.ensures.value, length-map c.handlers-handler-items.result.now handler_of) in
    clear_of arch c.args.done.now c.loop-k.clear c.loop-k.k c.requires.listed end c.requires.done c.loop-k.invariant
