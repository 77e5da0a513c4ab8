use Rattle.channel_graph.specs.Levels.{Ascends}
use Rattle.channel_graph.proofs.looping.ascends.Given as goal

abbrev pub invariant-loop-k : goal.invariant-loop-k
invariant-loop-k l = Ascends l.arch l.levels l.k
