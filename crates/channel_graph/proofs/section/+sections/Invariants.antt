use Rattle.std.proofs.Common.{◌≡◌, take}
use Rattle.tower_types.specs.Records.{saturated}
use Rattle.tower_syntax.specs.View.{all_stmts_of}
use Rattle.tower_syntax.specs.Weights.{stmts_weight}
use Rattle.channel_graph.specs.Site.{scope_at}
use Rattle.channel_graph.specs.Counting.{counting_of}
use Rattle.channel_graph.proofs.section.+sections.Given as goal

abbrev pub invariant-stmts_weight-loop-stmt : goal.invariant-stmts_weight-loop-stmt
invariant-stmts_weight-loop-stmt l = l.total ≡ saturated (stmts_weight (counting_of l.count) (scope_at l.scope) (all_stmts_of (take l.stmt-index l.stmts)))
