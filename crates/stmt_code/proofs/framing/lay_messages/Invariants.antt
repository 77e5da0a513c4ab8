use Rattle.std.proofs.Common.{◌≡◌, ◌++◌, ◌+◌, drop, map, sum}
use Rattle.tower_syntax.specs.View.{emitter_of}
use Rattle.tower_syntax.specs.Weights.{emitter_words}
use Rattle.stmt_code.specs.FrameOf.{laid}
use Rattle.stmt_code.proofs.framing.lay_messages.Given as goal

abbrev pub invariant-loop-emitter : goal.invariant-loop-emitter
invariant-loop-emitter l =
    (l.scratch ++ laid l.end (map (emitter_words l.arch) (map emitter_of (drop l.emitter-index l.emitters))) ≡ laid l.initial.end (map (emitter_words l.arch) (map emitter_of l.emitters)))
    × (l.end + sum (map (emitter_words l.arch) (map emitter_of (drop l.emitter-index l.emitters))) ≡ l.initial.end + sum (map (emitter_words l.arch) (map emitter_of l.emitters)))
