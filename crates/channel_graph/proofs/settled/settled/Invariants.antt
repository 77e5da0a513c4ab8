use Rattle.channel_graph.specs.Settled.{IsQuiet}
use Rattle.channel_graph.proofs.settled.settled.Given as goal

abbrev pub invariant-loop-node : goal.invariant-loop-node
invariant-loop-node l = IsQuiet l.arch l.quiet
