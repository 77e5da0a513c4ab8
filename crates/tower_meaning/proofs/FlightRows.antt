-- The system of ordinary use, computed.
use Rattle.std.proofs.Common.{refl}
use Rattle.tower_meaning.specs.WorkedFlight.{Flight}

pub flight : Flight
flight = record {
  marks = refl;
  outputs = refl;
  monitors = refl;
  all_done = refl;
}
