use Rattle.channel_graph.specs.Deep.{IsKnown}
use Rattle.channel_graph.proofs.depths.depths.Given as goal

abbrev pub invariant-loop-node : goal.invariant-loop-node
invariant-loop-node l = IsKnown l.arch l.known
