use Rattle.std.proofs.Common.{ℕ, ◌<◌}
use Rattle.channel_graph.specs.Over.{IsOver}
use Rattle.channel_graph.proofs.bounds.first_over.Given as goal

abbrev pub invariant-loop-h : goal.invariant-loop-h
invariant-loop-h l = (h e : ℕ) → h < l.h → IsOver l.arch h e → ⊥
