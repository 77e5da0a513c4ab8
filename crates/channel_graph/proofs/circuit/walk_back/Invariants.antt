use Rattle.std.proofs.Common.{◌≡◌, ◌<◌, ◌≤◌, ◌++◌, length}
use Rattle.channel_graph.specs.Circuit.{walk}
use Rattle.channel_graph.proofs.circuit.walk_back.Given as goal

abbrev pub invariant-loop-left : goal.invariant-loop-left
invariant-loop-left l =
    (l.left ≤ l.n)
    × (l.at < length l.arch.handlers)
    × (l.way ++ walk l.arch l.h l.left l.at ≡ walk l.arch l.h l.n l.h)

abbrev pub decreases-loop-left : goal.decreases-loop-left
decreases-loop-left l = l.left
