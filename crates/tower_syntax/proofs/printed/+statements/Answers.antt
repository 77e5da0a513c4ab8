use Rattle.std.proofs.Common.{arith, append_assoc}
use Rattle.tower_syntax.proofs.Spaced.{stmts_spaced-more}
use Rattle.tower_syntax.proofs.printed.+statements.Goals as goal

pub put_stmts-loop-stmt-preserved : goal.put_stmts-loop-stmt-preserved
put_stmts-loop-stmt-preserved t c = grind (arith, stmts_spaced-more, append_assoc)
