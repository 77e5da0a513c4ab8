-- Small systems, computed.
use Rattle.std.proofs.Common.{refl}
use Rattle.channel_graph.specs.Worked.{WorkedGraph}

pub worked_graph : WorkedGraph
worked_graph = record {
  ring_is_shown = refl;
  itself_is_shown = refl;
  cyc_is_not = refl;
  flight_has_none = refl;
  flight_reaches = refl;
  flight_motor = refl;
  loop_of_four = refl;
  greater_branch = refl;
  long_loops = refl;
  relay_cost = refl;
  relay_memory = refl;
  relay_code = refl;
}
