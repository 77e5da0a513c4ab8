use Rattle.std.proofs.Common.{◌≡◌, length}
use Rattle.channel_graph.proofs.ranking.search_ranks.Given as goal

abbrev pub invariant-loop-k : goal.invariant-loop-k
invariant-loop-k l = length l.ranks ≡ l.k
