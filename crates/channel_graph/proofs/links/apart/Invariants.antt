use Rattle.std.proofs.Common.{◌≡◌, length}
use Rattle.channel_graph.proofs.links.apart.Given as goal

abbrev pub invariant-loop-node : goal.invariant-loop-node
invariant-loop-node l = length l.lists.items ≡ l._node
