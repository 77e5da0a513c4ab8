use Rattle.std.proofs.Common.{refl}
use Rattle.run_laws.proofs.worked_costs.Goals as goal

pub returns : goal.returns
returns c = record { sources = refl; clock_costs = refl }
