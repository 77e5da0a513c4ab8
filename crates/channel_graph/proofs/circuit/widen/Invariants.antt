use Rattle.std.proofs.Common.{◌≡◌, false}
use Rattle.channel_graph.specs.Ranked.{Widens}
use Rattle.channel_graph.proofs.circuit.widen.Given as goal

abbrev pub invariant-loop-k : goal.invariant-loop-k
invariant-loop-k l = Widens l.arch l.loud l.n l.k l.initial.ranks l.ranks × (l.grew ≡ false → l.ranks ≡ l.initial.ranks)
