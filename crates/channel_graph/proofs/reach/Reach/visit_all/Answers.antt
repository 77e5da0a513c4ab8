use Rattle.std.proofs.Common.{◌<◌, length, get_or, arith, sym, subst, below_more}
use Rattle.channel_graph.specs.Reaching.{Follows, IsMarked}
use Rattle.channel_graph.proofs.Searched.{visit_goes, goes_goes}
use Rattle.channel_graph.proofs.reach.Reach.visit_all.Goals as goal

pub loop-k-preserved : goal.loop-k-preserved
loop-k-preserved c =
    let arch = c.args.arch.now in
    let ks = c.args.ks.now in
    let i = c.loop-k.k-index in
    let old = c.loop-k.self in
    let k = get_or ks i 0 in
    let g = c.loop-k.invariant.0 in
    let below : k < length old.handlers = omega (arith, c.requires.within i 0 c.loop-k-test.true, g.reach.handlers) in
    let f : Follows arch old.from k = subst (λ s. Follows arch s k) (sym g.later.from) (c.requires.follow i c.loop-k-test.true) in
    let v = visit_goes arch old c.visit.new.self k below c.in_ok-visit.ensures g.reach f in (
      goes_goes arch c.args.self.now old c.visit.new.self g v.0,
      below_more (λ j. IsMarked c.visit.new.self.handlers (get_or ks j 0)) i (λ j h. v.0.later.handlers (get_or ks j 0) (c.loop-k.invariant.1 j h)) v.1,
    )
