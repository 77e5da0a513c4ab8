use Rattle.std.proofs.Common.{◌≡◌, length}
use Rattle.channel_graph.proofs.levels.Flood.climb.Given as goal

abbrev pub invariant-loop-at : goal.invariant-loop-at
invariant-loop-at l = length l.self.levels ≡ length l.fn.self.levels
