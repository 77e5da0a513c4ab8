use Rattle.std.proofs.Common.{◌≡◌, length}
use Rattle.channel_graph.proofs.levels.levels.Given as goal

abbrev pub invariant-loop-passed : goal.invariant-loop-passed
invariant-loop-passed l = length l.flood.levels ≡ length l.back
