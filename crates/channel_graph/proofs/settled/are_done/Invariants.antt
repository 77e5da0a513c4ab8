use Rattle.std.proofs.Common.{ℕ, ◌<◌, get_or}
use Rattle.channel_graph.specs.Reaching.{IsMarked}
use Rattle.channel_graph.proofs.settled.are_done.Given as goal

abbrev pub invariant-loop-k : goal.invariant-loop-k
invariant-loop-k l = (j : ℕ) → j < l.k-index → IsMarked l.done (get_or l.ks j 0)
