use Rattle.std.proofs.Common.{◌≡◌, ℕ, length, map, sum}
use Rattle.tower_types.specs.Records.{saturated}
use Rattle.channel_graph.specs.Ranked.{marked_below}
use Rattle.channel_graph.specs.Table.{IsTable}
use Rattle.channel_graph.proofs.marked.marked_sum.Given as goal

abbrev pub invariant-loop-k : goal.invariant-loop-k
invariant-loop-k l = (f : ℕ → ℕ) → IsTable (length l.marks) f l.list → l.total ≡ saturated (sum (map f (marked_below l.marks l.k)))
