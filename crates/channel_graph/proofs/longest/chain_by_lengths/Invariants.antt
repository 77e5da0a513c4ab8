use Rattle.std.proofs.Common.{◌+◌}
use Rattle.channel_graph.specs.Lengths.{AreStarts, HasWalk}
use Rattle.channel_graph.proofs.longest.chain_by_lengths.Given as goal

abbrev pub invariant-loop-n : goal.invariant-loop-n
invariant-loop-n l = AreStarts l.arch (l.n + 1) l.ranks × HasWalk l.arch l.n
