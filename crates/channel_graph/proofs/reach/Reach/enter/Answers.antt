use Rattle.std.proofs.Common.{◌<◌, length, arith}
use Rattle.tower_syntax.specs.declared.arch.On.TheVariants as on
use Rattle.channel_graph.proofs.Searched.{audience, audience_at, all_marked, open_goes}
use Rattle.channel_graph.proofs.reach.Reach.enter.Goals as goal

pub visit_all-requires-clause-within : goal.visit_all-requires-clause-within
visit_all-requires-clause-within c =
    let ks = c.as_slice-then-not-as_slice-c.result.now in
    let same = audience c.args.arch.now c.args.heard.now c.args.c ks c.index-heard-c.result c.requires.heard c.requires.channel c.as_slice-then-not-as_slice-c.ensures c.index-heard-c.is in
    λ j d h. (audience_at c.args.arch.now (on.Channel c.args.c) ks same j d h).0

pub visit_all-requires-clause-follow : goal.visit_all-requires-clause-follow
visit_all-requires-clause-follow c =
    let ks = c.as_slice-then-not-as_slice-c.result.now in
    let same = audience c.args.arch.now c.args.heard.now c.args.c ks c.index-heard-c.result c.requires.heard c.requires.channel c.as_slice-then-not-as_slice-c.ensures c.index-heard-c.is in
    λ j h. let at = audience_at c.args.arch.now (on.Channel c.args.c) ks same j 0 h in c.requires.follow _ at.0 at.1

pub returns-in_ok-visit_all-clause-goes : goal.returns-in_ok-visit_all-clause-goes
returns-in_ok-visit_all-clause-goes c =
    let arch = c.args.arch.now in
    let ks = c.as_slice-then-not-as_slice-c.result.now in
    let mid = c.visit_all.new.self in
    let g = c.in_ok-visit_all.ensures.goes in
    let same = audience arch c.args.heard.now c.args.c ks c.index-heard-c.result c.requires.heard c.requires.channel c.as_slice-then-not-as_slice-c.ensures c.index-heard-c.is in
    let below : c.args.c < length mid.channels = omega (arith, g.reach.channels, c.requires.channel) in
    rw c.set.ensures (open_goes arch c.args.self.now mid c.args.c below g (all_marked arch (on.Channel c.args.c) mid.handlers ks same c.in_ok-visit_all.ensures.marked))
