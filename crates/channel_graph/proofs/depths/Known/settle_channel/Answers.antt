use Rattle.std.proofs.Common.{◌≡◌, length, arith, subst, sym}
use Rattle.tower_syntax.specs.declared.arch.On.TheVariants as on
use Rattle.channel_graph.specs.Deep.{IsKnown, IsTop}
use Rattle.channel_graph.proofs.Searched.{audience, audience_at}
use Rattle.channel_graph.proofs.Sounded.{known_channel}
use Rattle.channel_graph.proofs.depths.Known.settle_channel.Goals as goal

pub deepest_of-deepest-requires : goal.deepest_of-deepest-requires
deepest_of-deepest-requires c j d h =
    let arch = c.args.arch.now in
    let ks = c.as_slice-2.result.now in
    let same = audience arch c.args.heard.now c.args.c ks c.index-heard-c.result c.requires.heard c.requires.channel c.as_slice-2.ensures c.index-heard-c.is in
    let each : length c.as_slice.result.now ≡ length arch.handlers = subst (λ ms. length ms ≡ length arch.handlers) (sym c.as_slice.ensures) c.requires.known.depths.each in
    omega (arith, (audience_at arch (on.Channel c.args.c) ks same j d h).0, each)

pub returns-then-most-lt18446744073709551615 : goal.returns-then-most-lt18446744073709551615
returns-then-most-lt18446744073709551615 c =
    let arch = c.args.arch.now in
    let q = c.args.self.now in
    let ks = c.as_slice-2.result.now in
    let same = audience arch c.args.heard.now c.args.c ks c.index-heard-c.result c.requires.heard c.requires.channel c.as_slice-2.ensures c.index-heard-c.is in
    let top = subst (λ ms. IsTop ms 0 c.in-Some.most (length ks) ks) c.as_slice.ensures c.in-Some.ensures in
    subst (λ ms. IsKnown arch (record q { channels = ms })) (sym c.set.ensures) (known_channel arch q ks c.args.c c.in-Some.most c.requires.known c.requires.channel same top)
