use Rattle.channel_graph.specs.Ranking.{AreNearest}
use Rattle.channel_graph.proofs.ranking.nearest_on.Given as goal

abbrev pub invariant-loop-k : goal.invariant-loop-k
invariant-loop-k l = AreNearest l.arch l.ranks l.k l.nearest
