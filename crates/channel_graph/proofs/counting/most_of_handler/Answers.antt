use Rattle.std.proofs.Common.{arith}
use Rattle.channel_graph.proofs.Counted.{most_of_bodies-more}
use Rattle.channel_graph.proofs.counting.most_of_handler.Goals as goal

pub loop-body-preserved : goal.loop-body-preserved
loop-body-preserved c = grind (arith, most_of_bodies-more)
