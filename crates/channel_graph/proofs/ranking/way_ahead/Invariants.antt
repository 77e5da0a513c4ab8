use Rattle.std.proofs.Common.{◌≡◌, ◌<◌, ◌++◌, length, Some}
use Rattle.channel_graph.specs.Circuit.{walk_round}
use Rattle.channel_graph.specs.Ranked.{rank}
use Rattle.channel_graph.proofs.Ahead.{ahead_from}
use Rattle.channel_graph.proofs.ranking.way_ahead.Given as goal

abbrev pub invariant-loop-at : goal.invariant-loop-at
invariant-loop-at l =
    (l.at < length l.arch.handlers)
    × (Some (l.way ++ ahead_from l.arch l.h (rank l.ranks l.at) l.at) ≡ walk_round l.arch l.h)

abbrev pub decreases-loop-at : goal.decreases-loop-at
decreases-loop-at l = rank l.ranks l.at
