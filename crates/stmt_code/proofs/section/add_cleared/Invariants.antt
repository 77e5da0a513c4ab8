use Rattle.std.proofs.Common.{◌≡◌, ◌++◌, ◌+◌, ◌-◌}
use Rattle.task_code.specs.Grows.{Keeps}
use Rattle.task_code.specs.Piece.{listed}
use Rattle.stmt_code.specs.Section.{cleared}
use Rattle.stmt_code.proofs.section.add_cleared.Given as goal

-- what stands, with what is still to come, is the whole
abbrev pub invariant-loop-k : goal.invariant-loop-k
invariant-loop-k l =
    (l.code ++ listed (cleared (l.first + l.k) (l.n - l.k)) ≡ l.initial.code ++ listed (cleared l.first l.n))
    × Keeps l.initial.code l.code
