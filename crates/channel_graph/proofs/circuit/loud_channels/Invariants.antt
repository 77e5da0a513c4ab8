use Rattle.channel_graph.specs.Ranked.{AreLoud}
use Rattle.channel_graph.proofs.circuit.loud_channels.Given as goal

abbrev pub invariant-loop-k : goal.invariant-loop-k
invariant-loop-k l = AreLoud l.arch l.ranks l.k l.loud
