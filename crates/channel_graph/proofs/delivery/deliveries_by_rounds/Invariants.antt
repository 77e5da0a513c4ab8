use Rattle.std.proofs.Common.{length}
use Rattle.tower_syntax.specs.Weights.{deliver_within}
use Rattle.channel_graph.specs.Table.{IsTable}
use Rattle.channel_graph.proofs.delivery.deliveries_by_rounds.Given as goal

abbrev pub invariant-loop-links : goal.invariant-loop-links
invariant-loop-links l = IsTable (length l.arch.handlers) (deliver_within l._links l.arch) l.costs
