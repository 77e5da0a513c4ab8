use Rattle.stretch_law.proofs.demand_law.Goals as goal
use Rattle.stretch_law.proofs.Grows.{demand_grows}

pub returns : goal.returns
returns c t gap p v w l periods h = demand_grows t gap p v w l periods h
