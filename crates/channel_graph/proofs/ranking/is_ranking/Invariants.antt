use Rattle.channel_graph.specs.Ranking.{IsRanking}
use Rattle.channel_graph.proofs.ranking.is_ranking.Given as goal

abbrev pub invariant-loop-k : goal.invariant-loop-k
invariant-loop-k l = IsRanking l.arch l.h l.ranks l.k
