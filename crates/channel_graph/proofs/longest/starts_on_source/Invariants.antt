use Rattle.std.proofs.Common.{ℕ, ◌<◌}
use Rattle.channel_graph.specs.Lengths.{IsStart}
use Rattle.channel_graph.proofs.longest.starts_on_source.Given as goal

abbrev pub invariant-loop-k : goal.invariant-loop-k
invariant-loop-k l = (h : ℕ) → h < l.k → IsStart l.arch l.ranks h → ⊥
