use Rattle.std.proofs.Common.{ℕ, ◌<◌}
use Rattle.channel_graph.specs.Over.{IsOver}
use Rattle.channel_graph.proofs.bounds.over_of.Given as goal

abbrev pub invariant-loop-e : goal.invariant-loop-e
invariant-loop-e l = (e : ℕ) → e < l.e → IsOver l.arch l.h e → ⊥
