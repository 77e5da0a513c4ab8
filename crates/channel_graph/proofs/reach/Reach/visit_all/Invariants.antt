use Rattle.std.proofs.Common.{ℕ, ◌<◌, get_or}
use Rattle.channel_graph.specs.Reaching.{Goes, IsMarked}
use Rattle.channel_graph.proofs.reach.Reach.visit_all.Given as goal

abbrev pub invariant-loop-k : goal.invariant-loop-k
invariant-loop-k l =
    Goes l.arch l.initial.self l.self
    × ((j : ℕ) → j < l.k-index → IsMarked l.self.handlers (get_or l.ks j 0))
