use Rattle.tower_meaning.proofs.laws.worked_flight.Goals as goal
use Rattle.tower_meaning.proofs.FlightRows.{flight}

pub returns : goal.returns
returns c = flight
