use Rattle.std.proofs.Common.{◌≡◌, length}
use Rattle.channel_graph.proofs.delivery.costs_along.Given as goal

abbrev pub invariant-loop-node : goal.invariant-loop-node
invariant-loop-node l = (length l.taken.costs ≡ length l.arch.handlers) × (length l.taken.totals ≡ length l.arch.channels)
