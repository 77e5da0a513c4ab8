use Rattle.std.proofs.Common.{◌≡◌, [], map}
use Rattle.tower_types.specs.Records.{saturated}
use Rattle.tower_syntax.specs.Graph.{numbers_before}
use Rattle.tower_syntax.specs.Weights.{cost}
use Rattle.channel_graph.proofs.delivery.costs.Given as goal

abbrev pub invariant-loop-s : goal.invariant-loop-s
invariant-loop-s l = l.found.items ≡ map (λ s. saturated (cost l.arch s)) (numbers_before l.s [])
