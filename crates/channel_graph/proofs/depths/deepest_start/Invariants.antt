use Rattle.channel_graph.specs.Deep.{IsDeepest}
use Rattle.channel_graph.proofs.depths.deepest_start.Given as goal

abbrev pub invariant-loop-k : goal.invariant-loop-k
invariant-loop-k l = IsDeepest l.arch l.depths l.k l.deepest
