use Rattle.std.proofs.Common.{◌≡◌, ◌++◌, length, drop, map}
use Rattle.tower_syntax.specs.View.{handler_of, body_of}
use Rattle.task_code.specs.Grows.{Keeps}
use Rattle.task_code.specs.Piece.{listed}
use Rattle.stmt_code.specs.Section.{bodies_code}
use Rattle.stmt_code.proofs.section.add_bodies.Given as goal

-- what stands, with what is still to come, is the whole
abbrev pub invariant-loop-i : goal.invariant-loop-i
invariant-loop-i l =
    (l.code ++ listed (bodies_code l.arch (handler_of l.h) l.frame l.i (length l.code) (map body_of (drop l.i l.bodies)))
    ≡ l.initial.code ++ listed (bodies_code l.arch (handler_of l.h) l.frame 0 (length l.initial.code) (map body_of l.bodies)))
    × Keeps l.initial.code l.code
