use Rattle.std.proofs.Common.{◌≡◌, map, sum, take}
use Rattle.tower_types.specs.Ty.{words, table_of}
use Rattle.tower_types.specs.Records.{saturated}
use Rattle.tower_syntax.specs.View.{body_of}
use Rattle.tower_syntax.specs.Weights.{field_shapes}
use Rattle.channel_graph.proofs.size.binder_words.Given as goal

abbrev pub invariant-loop-body : goal.invariant-loop-body
invariant-loop-body l = l.total ≡ saturated (sum (map (λ b. sum (map words (field_shapes (table_of l.arch.records) b.binders))) (map body_of (take l.body-index l.bodies))))
