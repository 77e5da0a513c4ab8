use Rattle.std.proofs.Common.{◌≡◌, ◌++◌, length, drop}
use Rattle.tower_syntax.specs.View.{all_stmts_of}
use Rattle.task_code.specs.Grows.{Keeps}
use Rattle.task_code.specs.Piece.{listed}
use Rattle.stmt_code.specs.Body.{stmts_code}
use Rattle.stmt_code.proofs.stmts.+stmts.Given as goal

-- what stands, with what is still to come, is the whole
abbrev pub invariant-add_stmts-loop-stmt : goal.invariant-add_stmts-loop-stmt
invariant-add_stmts-loop-stmt l =
    (l.code ++ listed (stmts_code l.layout (length l.code) (all_stmts_of (drop l.stmt-index l.stmts)))
    ≡ l.initial.code ++ listed (stmts_code l.layout (length l.initial.code) (all_stmts_of l.stmts)))
    × Keeps l.initial.code l.code
