use Rattle.bound_law.proofs.middle_law.Goals as goal
use Rattle.bound_law.proofs.Bounded.{between}

pub returns : goal.returns
returns c arch p events n gap steps numbered typed sound fit l h = between arch p events numbered typed sound fit n gap steps l h
