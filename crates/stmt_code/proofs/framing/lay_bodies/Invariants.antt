use Rattle.std.proofs.Common.{◌≡◌, ◌++◌, ◌+◌, drop, map, sum}
use Rattle.tower_syntax.specs.View.{body_of}
use Rattle.stmt_code.specs.FrameOf.{binder_words, binders_laid}
use Rattle.stmt_code.proofs.framing.lay_bodies.Given as goal

abbrev pub invariant-loop-body : goal.invariant-loop-body
invariant-loop-body l =
    (l.binders ++ binders_laid l.arch l.end (map body_of (drop l.body-index l.bodies)) ≡ binders_laid l.arch l.initial.end (map body_of l.bodies))
    × (l.end + sum (map (λ b. sum (binder_words l.arch b)) (map body_of (drop l.body-index l.bodies))) ≡ l.initial.end + sum (map (λ b. sum (binder_words l.arch b)) (map body_of l.bodies)))
