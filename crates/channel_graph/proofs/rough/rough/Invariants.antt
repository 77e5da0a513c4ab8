use Rattle.std.proofs.Common.{◌≡◌, length, take}
use Rattle.channel_graph.specs.Rough.{GrowsBy}
use Rattle.channel_graph.proofs.Counted.{most_of_bodies}
use Rattle.channel_graph.proofs.rough.rough.Given as goal

abbrev pub invariant-loop-body : goal.invariant-loop-body
invariant-loop-body l =
    GrowsBy (λ e. most_of_bodies e (take l.body-index l.body-items)) l.initial.counts.totals l.counts.totals
    × (length l.counts.totals ≡ length l.h.emitters)
