use Rattle.std.proofs.Common.{◌≤◌, ◌-◌, length}
use Rattle.channel_graph.specs.Reaching.{Goes, AreDone}
use Rattle.channel_graph.proofs.reach.Reach.spread.Given as goal

abbrev pub invariant-loop-done : goal.invariant-loop-done
invariant-loop-done l =
    Goes l.arch l.initial.self l.self
    × (l.done ≤ length l.self.order)
    × AreDone l.arch l.self l.done

abbrev pub decreases-loop-done : goal.decreases-loop-done
decreases-loop-done l = length l.arch.handlers - l.done
