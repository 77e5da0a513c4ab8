use Rattle.std.proofs.Common.{arith}
use Rattle.tower_syntax.proofs.Views.{stmt_of-Loop}
use Rattle.channel_graph.proofs.Saturating.{min-mul}
use Rattle.channel_graph.proofs.Counted.{most_of_stmts-more}
use Rattle.channel_graph.proofs.counting.+counted.Goals as goal

pub most_of_stmts-loop-stmt-preserved : goal.most_of_stmts-loop-stmt-preserved
most_of_stmts-loop-stmt-preserved t c = grind (arith, most_of_stmts-more)

pub most_of_stmt-returns-in-Loop : goal.most_of_stmt-returns-in-Loop
most_of_stmt-returns-in-Loop t c = grind (arith, min-mul, stmt_of-Loop)
