use Rattle.bound_law.proofs.bounds_law.Goals as goal
use Rattle.bound_law.proofs.Bounded.{met_before}

pub returns : goal.returns
returns c arch rate gap i ms w numbered typed l inside k window p events before after r sound fit h e d =
    met_before arch p events numbered typed sound fit i ms rate gap w before after r l inside k window h e d
