use Rattle.std.proofs.Common.{◌∙◌, arith}
use Rattle.channel_graph.proofs.Rounds.{least_is_nearer, walk_step}
use Rattle.channel_graph.proofs.circuit.walk_back.Goals as goal

pub loop-left-preserved : goal.loop-left-preserved
loop-left-preserved c =
    let arch = c.args.arch.now in
    let nearer = c.least_nearer-at.ensures.value ∙ least_is_nearer arch c.args.h c.args.n c.loop-left.left c.args.ranks.now c.loop-left.at c.requires.ranks c.loop-left.invariant.0 in (
      omega (arith, c.loop-left.invariant.0),
      c.least_nearer-at.ensures.below,
      walk_step arch c.args.h c.loop-left.left c.loop-left.at c.least_nearer-at.result c.loop-left.way c.push.new.self _ c.loop-left-test.true c.loop-left.invariant.2 c.in_ok-push.ensures.ok nearer,
    )
