-- Weights of small systems, computed.
use Rattle.std.proofs.Common.{refl}
use Rattle.tower_syntax.specs.WorkedWeights.{WorkedWeights}

pub worked_weights : WorkedWeights
worked_weights = record {
  clock_costs = refl;
  clock_memory = refl;
  clock_code = refl;
  cyc_costs = refl;
  cyc_memory = refl;
  cyc_code = refl;
  flight_costs = refl;
  flight_memory = refl;
  flight_code = refl;
}
