use Rattle.std.proofs.Common.{◌≡◌, ◌<◌, ℕ, false}
use Rattle.channel_graph.specs.Circuit.{leads_near}
use Rattle.channel_graph.specs.Ranked.{AreRanked}
use Rattle.channel_graph.proofs.circuit.way_by_rounds.Given as goal

abbrev pub invariant-loop-n : goal.invariant-loop-n
invariant-loop-n l =
    AreRanked l.arch l.h l.n l.ranks
    × ((m : ℕ) → m < l.n → leads_near l.arch l.h m l.h ≡ false)
