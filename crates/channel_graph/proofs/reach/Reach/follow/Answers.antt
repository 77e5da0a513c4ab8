use Rattle.std.proofs.Common.{◌≡◌, ◌<◌, length, map, take, arith, sym, subst, ap}
use Rattle.std.proofs.lemmas.List.{length-map}
use Rattle.tower_syntax.specs.View.{emitter_of}
use Rattle.tower_syntax.proofs.Elements.{kept}
use Rattle.channel_graph.specs.Reaching.{Follows, IsMarked}
use Rattle.channel_graph.proofs.Searched.{goes_goes, emitter_leads, open_more, open_later, all_open}
use Rattle.channel_graph.proofs.reach.Reach.follow.Goals as goal

pub enter-requires-clause-channel : goal.enter-requires-clause-channel
enter-requires-clause-channel c =
    let items = c.as_slice-emitter-items.result.now in
    let within : c.loop-emitter.emitter-index < length (map emitter_of c.handler.result.now.emitters) = omega (arith, length-map c.handler.result.now.emitters emitter_of, ap length c.as_slice-emitter-items.ensures, c.loop-emitter-test.true) in
    kept (λ e. e.channel < length c.args.arch.now.channels) emitter_of items (map emitter_of c.handler.result.now.emitters) c.loop-emitter.emitter-index c.emitter-item.result (ap (map emitter_of) c.as_slice-emitter-items.ensures) c.handler.ensures.numbered.emitters c.emitter-item.is within

pub enter-requires-clause-follow : goal.enter-requires-clause-follow
enter-requires-clause-follow c k h o =
    let arch = c.args.arch.now in
    let link = emitter_leads arch c.args.h c.handler.result.now c.as_slice-emitter-items.result.now c.loop-emitter.emitter-index c.emitter-item.result c.requires.listed c.handler.ensures.value c.as_slice-emitter-items.ensures c.loop-emitter-test.true c.emitter-item.is k h o in
    subst (λ s. Follows arch s k) (sym c.loop-emitter.invariant.0.later.from) (c.requires.follow k link)

pub loop-emitter-preserved : goal.loop-emitter-preserved
loop-emitter-preserved c =
    let arch = c.args.arch.now in
    let items = c.as_slice-emitter-items.result.now in
    let i = c.loop-emitter.emitter-index in
    let old = c.loop-emitter.self in
    let new = c.enter.new.self in
    let g = c.in_ok-enter.ensures.goes in
    let here = subst (λ e. IsMarked new.channels e.channel) c.emitter-item.is c.in_ok-enter.ensures.marked in (
      goes_goes arch c.args.self.now old new c.loop-emitter.invariant.0 g,
      open_more new.channels items i c.emitter-item.result c.loop-emitter-test.true (open_later old.channels new.channels (map emitter_of (take i items)) g.later.channels c.loop-emitter.invariant.1) here,
    )

pub returns-clause-opened : goal.returns-clause-opened
returns-clause-opened c =
    let items = c.as_slice-emitter-items.result.now in
    let end : c.loop-emitter.emitter-index ≡ length items = omega arith in
    all_open c.args.arch.now c.args.h c.handler.result.now items c.loop-emitter.emitter-index c.loop-emitter.self.channels c.handler.ensures.value c.as_slice-emitter-items.ensures end c.loop-emitter.invariant.1
