use Rattle.std.proofs.Common.{◌+◌, arith, subst, sym}
use Rattle.channel_graph.specs.Deep.{IsDeepest}
use Rattle.channel_graph.proofs.Sounded.{deepest_pass, deepest_more}
use Rattle.channel_graph.proofs.depths.deepest_start.Goals as goal
use Rattle.channel_graph.proofs.depths.deepest_start.Goals.{then-is_on_source+else-depth-eq0, else-is_on_source}

pub loop-k-preserved : goal.loop-k-preserved
loop-k-preserved c =
    let arch = c.args.arch.now in
    let depths = c.args.depths.now in
    let k = c.loop-k.k in
    elim c.if-is_on_source.branch [
      | then-is_on_source+else-depth-eq0 w ↦
          subst (IsDeepest arch depths (k + 1)) (sym w.deepest-is) (deepest_more arch depths k c.loop-k.deepest w.max-deepest.result c.requires c.loop-k.invariant w.if-is_on_source.ensures (omega (arith, w.if-depth-eq0.false)) w.max-deepest.ensures)
      | else-is_on_source w ↦
          subst (IsDeepest arch depths (k + 1)) (sym w.deepest-is) (deepest_pass arch depths k c.loop-k.deepest c.loop-k.invariant w.if-is_on_source.ensures)
    ]
