use Rattle.std.proofs.Common.{◌≡◌, ◌++◌, ◌+◌, ◌-◌}
use Rattle.task_code.specs.Grows.{Keeps}
use Rattle.task_code.specs.Piece.{listed}
use Rattle.stmt_code.specs.Body.{zeroed}
use Rattle.stmt_code.proofs.stmts.add_zeroed.Given as goal

-- what stands, with what is still to come, is the whole
abbrev pub invariant-loop-j : goal.invariant-loop-j
invariant-loop-j l =
    (l.code ++ listed (zeroed (l.address + l.j) (l.n - l.j)) ≡ l.initial.code ++ listed (zeroed l.address l.n))
    × Keeps l.initial.code l.code
