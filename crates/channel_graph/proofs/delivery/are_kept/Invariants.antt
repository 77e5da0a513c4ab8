use Rattle.channel_graph.specs.Kept.{AreKept}
use Rattle.channel_graph.proofs.delivery.are_kept.Given as goal

abbrev pub invariant-loop-k : goal.invariant-loop-k
invariant-loop-k l = AreKept l.depths l.before l.after l.k
