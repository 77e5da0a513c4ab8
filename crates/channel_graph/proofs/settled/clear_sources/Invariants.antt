use Rattle.channel_graph.specs.Settled.{AreSpared}
use Rattle.channel_graph.proofs.settled.clear_sources.Given as goal

abbrev pub invariant-loop-k : goal.invariant-loop-k
invariant-loop-k l = AreSpared l.arch l.done l.k l.clear
