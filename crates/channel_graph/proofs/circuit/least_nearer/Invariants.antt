use Rattle.std.proofs.Common.{◌≡◌, ◌+◌, ◌<◌, ℕ, false, ◌&&◌, nat_lt, nat_le}
use Rattle.tower_syntax.specs.Graph.{leads}
use Rattle.channel_graph.specs.Ranked.{rank}
use Rattle.channel_graph.proofs.circuit.least_nearer.Given as goal

abbrev pub invariant-loop-j : goal.invariant-loop-j
invariant-loop-j l = (i : ℕ) → i < l.j → (leads l.arch l.k i && (nat_lt 0 (rank l.ranks i) && nat_le (rank l.ranks i) (l.n + 1))) ≡ false
