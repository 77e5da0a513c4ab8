use Rattle.std.proofs.Common.{◌≡◌, ◌++◌}
use Rattle.task_code.specs.Piece.{listed}
use Rattle.task_build.specs.CodeOf.{words_passed}
use Rattle.task_build.proofs.heads.add_words.Given as goal

abbrev pub invariant-loop-j : goal.invariant-loop-j
invariant-loop-j l = l.code ≡ l.initial.code ++ listed (words_passed l.from l.to l.j)
