use Rattle.std.proofs.Common.{◌≡◌, [], map, sum}
use Rattle.tower_types.specs.Records.{saturated}
use Rattle.tower_syntax.specs.Graph.{numbers_before}
use Rattle.tower_syntax.specs.Weights.{source_code}
use Rattle.channel_graph.proofs.code_weight.code.Given as goal

abbrev pub invariant-loop-s : goal.invariant-loop-s
invariant-loop-s l = l.total ≡ saturated (sum (map (source_code l.arch) (numbers_before l.s [])))
