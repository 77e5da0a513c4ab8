use Rattle.channel_graph.specs.Lengths.{AreBefore}
use Rattle.channel_graph.proofs.longest.one_before.Given as goal

abbrev pub invariant-loop-k : goal.invariant-loop-k
invariant-loop-k l = AreBefore l.arch l.ranks l.k l.before
