use Rattle.std.proofs.Common.{◌≡◌, length}
use Rattle.channel_graph.proofs.levels.Flood.enter_all.Given as goal

abbrev pub invariant-loop-node : goal.invariant-loop-node
invariant-loop-node l = length l.self.levels ≡ length l.initial.self.levels
