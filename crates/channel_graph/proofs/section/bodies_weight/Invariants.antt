use Rattle.std.proofs.Common.{◌≡◌, take, map, sum}
use Rattle.tower_types.specs.Records.{saturated}
use Rattle.tower_syntax.specs.View.{body_of, handler_of}
use Rattle.tower_syntax.specs.Weights.{stmts_weight, scope_of}
use Rattle.channel_graph.specs.Counting.{counting_of}
use Rattle.channel_graph.proofs.section.bodies_weight.Given as goal

abbrev pub invariant-loop-body : goal.invariant-loop-body
invariant-loop-body l = l.total ≡ saturated (sum (map (λ b. stmts_weight (counting_of l.count) (scope_of l.arch (handler_of l.h) b) b.stmts) (map body_of (take l.body-index l.body-items))))
