use Rattle.std.proofs.Common.{◌≡◌, take}
use Rattle.tower_types.specs.Records.{saturated}
use Rattle.tower_syntax.specs.View.{all_stmts_of}
use Rattle.tower_syntax.specs.Weights.{most_of_stmts}
use Rattle.channel_graph.proofs.counting.+counted.Given as goal

abbrev pub invariant-most_of_stmts-loop-stmt : goal.invariant-most_of_stmts-loop-stmt
invariant-most_of_stmts-loop-stmt l = l.total ≡ saturated (most_of_stmts l.emitter (all_stmts_of (take l.stmt-index l.stmts)))
