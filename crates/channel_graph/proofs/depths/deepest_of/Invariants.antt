use Rattle.channel_graph.specs.Deep.{IsTop}
use Rattle.channel_graph.proofs.depths.deepest_of.Given as goal

abbrev pub invariant-loop-k : goal.invariant-loop-k
invariant-loop-k l = IsTop l.depths 0 l.deepest l.k-index l.ks
