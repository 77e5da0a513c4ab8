use Rattle.std.proofs.Common.{◌≡◌, ◌++◌, ◌-◌}
use Rattle.task_code.specs.Grows.{Keeps}
use Rattle.task_code.specs.Piece.{listed}
use Rattle.stmt_code.specs.Body.{words_copied}
use Rattle.stmt_code.specs.Seen.{moved_of}
use Rattle.stmt_code.proofs.moved.add_words_copied.Given as goal

-- what stands, with what is still to come, is the whole
abbrev pub invariant-loop-j : goal.invariant-loop-j
invariant-loop-j l =
    (l.code ++ listed (words_copied (moved_of l.to) (moved_of l.source) l.j (l.n - l.j)) ≡ l.initial.code ++ listed (words_copied (moved_of l.to) (moved_of l.source) 0 l.n))
    × Keeps l.initial.code l.code
