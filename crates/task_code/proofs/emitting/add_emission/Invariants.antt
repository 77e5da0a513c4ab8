use Rattle.std.proofs.Common.{◌≡◌, ◌++◌, ◌-◌}
use Rattle.task_code.specs.Grows.{Keeps}
use Rattle.task_code.specs.Piece.{listed}
use Rattle.task_code.specs.Emission.{words_put}
use Rattle.task_code.proofs.emitting.add_emission.Given as goal

-- what stands, with what is still to come, is the whole
abbrev pub invariant-loop-j : goal.invariant-loop-j
invariant-loop-j l =
    (l.code ++ listed (words_put l.scratch l.buffer l.j (l.width - l.j)) ≡ l.initial.code ++ listed (words_put l.scratch l.buffer 0 l.width))
    × Keeps l.initial.code l.code
