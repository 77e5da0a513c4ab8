use Rattle.std.proofs.Common.{◌≡◌, ◌<◌, ℕ, length, get_or, arith, refl, subst, sym}
use Rattle.tower_syntax.specs.declared.arch.On.TheVariants as on
use Rattle.channel_graph.specs.Reaching.{IsMarked}
use Rattle.channel_graph.specs.Settled.{IsQuiet}
use Rattle.channel_graph.proofs.Searched.{audience, audience_at, all_marked}
use Rattle.channel_graph.proofs.Peeled.{quiet_channel}
use Rattle.channel_graph.proofs.settled.Quiet.settle_channel.Goals as goal

pub are_done-requires : goal.are_done-requires
are_done-requires c j d h =
    let arch = c.args.arch.now in
    let ks = c.as_slice-2.result.now in
    let same = audience arch c.args.heard.now c.args.c ks c.index-heard-c.result c.requires.heard c.requires.channel c.as_slice-2.ensures c.index-heard-c.is in
    let each : length c.as_slice.result.now ≡ length arch.handlers = subst (λ ms. length ms ≡ length arch.handlers) (sym c.as_slice.ensures) c.requires.quiet.settled.each in
    omega (arith, (audience_at arch (on.Channel c.args.c) ks same j d h).0, each)

pub returns-then-are_done : goal.returns-then-are_done
returns-then-are_done c =
    let arch = c.args.arch.now in
    let q = c.args.self.now in
    let ks = c.as_slice-2.result.now in
    let same = audience arch c.args.heard.now c.args.c ks c.index-heard-c.result c.requires.heard c.requires.channel c.as_slice-2.ensures c.index-heard-c.is in
    let each : (j : ℕ) → j < length ks → IsMarked q.handlers (get_or ks j 0) = subst (λ ms. (j : ℕ) → j < length ks → IsMarked ms (get_or ks j 0)) c.as_slice.ensures (c.if-are_done.ensures refl) in
    subst (λ ms. IsQuiet arch (record q { channels = ms })) (sym c.set.ensures) (quiet_channel arch q c.args.c c.requires.quiet c.requires.channel (all_marked arch (on.Channel c.args.c) q.handlers ks same each))
