use Rattle.run_laws.proofs.Paid.{never_stopped, costs_most}
use Rattle.run_laws.proofs.enough_never_stops.Goals as goal

pub returns-clause-ends : goal.returns-clause-ends
returns-clause-ends c = λ policy arch p events choices limit names sound fit enough. never_stopped arch p events sound fit policy limit names choices enough

pub returns-clause-most : goal.returns-clause-most
returns-clause-most c = λ policy arch p events choices limit names sound fit. costs_most arch p events sound fit policy limit names choices
