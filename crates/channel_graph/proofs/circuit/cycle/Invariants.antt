use Rattle.std.proofs.Common.{◌≡◌, [], None}
use Rattle.tower_syntax.specs.Graph.{numbers_before}
use Rattle.channel_graph.specs.Circuit.{first_of_all, shown_at}
use Rattle.channel_graph.proofs.circuit.cycle.Given as goal

abbrev pub invariant-loop-s : goal.invariant-loop-s
invariant-loop-s l = first_of_all (shown_at l.arch) (numbers_before l.s []) ≡ None
