use Rattle.std.proofs.Common.{◌≡◌, ◌++◌, take}
use Rattle.tower_syntax.specs.RawView.{all_raw_stmts_of}
use Rattle.tower_syntax.specs.Form.{all_spaced}
use Rattle.tower_syntax.specs.Printed.{stmt_forms}
use Rattle.tower_syntax.proofs.printed.+statements.Given as goal

abbrev pub invariant-put_stmts-loop-stmt : goal.invariant-put_stmts-loop-stmt
invariant-put_stmts-loop-stmt l = l.out.items ≡ l.initial.out.items ++ all_spaced (stmt_forms (all_raw_stmts_of (take l.stmt-index l.stmts)))
