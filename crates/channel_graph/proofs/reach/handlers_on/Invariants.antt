use Rattle.std.proofs.Common.{◌≡◌}
use Rattle.channel_graph.specs.Reaching.{first_on}
use Rattle.channel_graph.proofs.reach.handlers_on.Given as goal

abbrev pub invariant-loop-k : goal.invariant-loop-k
invariant-loop-k l = l.found ≡ first_on l.arch l.on l.k
