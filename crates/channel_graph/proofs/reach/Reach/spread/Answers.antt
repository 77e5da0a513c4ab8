use Rattle.std.proofs.Common.{◌≡◌, ◌<◌, true, length, get_or, arith, subst}
use Rattle.tower_syntax.specs.Graph.{handler, leads}
use Rattle.channel_graph.specs.Reaching.{AreOpen, goes}
use Rattle.channel_graph.proofs.Searched.{goes_goes, done_more, done_closed}
use Rattle.channel_graph.proofs.reach.Reach.spread.Goals as goal

pub follow-requires-clause-follow : goal.follow-requires-clause-follow
follow-requires-clause-follow c k link =
    let arch = c.args.arch.now in
    let old = c.loop-done.self in
    let i = c.loop-done.done in
    let within : i < length old.order = omega arith in
    let reach = c.loop-done.invariant.0.reach in
    goes (get_or old.order i 0) k (reach.sound (get_or old.order i 0) (reach.within i within)) (subst (λ o. leads arch (get_or o i 0) k ≡ true) c.as_slice.ensures link)

pub loop-done-preserved : goal.loop-done-preserved
loop-done-preserved c =
    let arch = c.args.arch.now in
    let old = c.loop-done.self in
    let new = c.follow.new.self in
    let i = c.loop-done.done in
    let g = c.in_ok-follow.ensures.goes in
    let within : i < length old.order = omega arith in
    let opened = subst (λ o. AreOpen new.channels (handler arch (get_or o i 0)).emitters) c.as_slice.ensures c.in_ok-follow.ensures.opened in (
      goes_goes arch c.args.self.now old new c.loop-done.invariant.0 g,
      omega (arith, g.later.longer),
      done_more arch old new i within c.loop-done.invariant.2 g.later opened,
    )

pub returns-clause-closed : goal.returns-clause-closed
returns-clause-closed c =
    done_closed c.args.arch.now c.loop-done.self c.loop-done.done c.requires.listed c.loop-done.invariant.0.reach c.loop-done.invariant.2 (omega arith)
