use Rattle.std.proofs.Common.{◌≡◌, None}
use Rattle.channel_graph.specs.Circuit.{first_of_all, walk_round}
use Rattle.channel_graph.specs.Ranked.{marked_below}
use Rattle.channel_graph.proofs.circuit.first_round.Given as goal

abbrev pub invariant-loop-k : goal.invariant-loop-k
invariant-loop-k l = first_of_all (walk_round l.arch) (marked_below l.marks l.k) ≡ None
