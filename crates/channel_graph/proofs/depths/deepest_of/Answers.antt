use Rattle.std.proofs.Common.{get_or, arith, refl}
use Rattle.channel_graph.specs.Ranked.{rank}
use Rattle.channel_graph.proofs.Sounded.{top_more}
use Rattle.channel_graph.proofs.depths.deepest_of.Goals as goal

pub loop-k-preserved : goal.loop-k-preserved
loop-k-preserved c =
    let depths = c.args.depths.now in
    let ks = c.args.ks.now in
    let i = c.loop-k.k-index in
    top_more depths ks 0 c.loop-k.deepest i (rank depths (get_or ks i 0)) c.max-deepest.result c.loop-k.invariant refl (omega (arith, c.if-depth-eq0.false)) c.max-deepest.ensures
