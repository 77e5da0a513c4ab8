use Rattle.emit_code.proofs.laws.deliveries_visit.Goals as goal
use Rattle.emit_code.proofs.Delivered.{visits}
use Rattle.emit_code.proofs.Lengths.{is_short}

pub returns-clause-visits : goal.returns-clause-visits
returns-clause-visits c = visits

pub returns-clause-short : goal.returns-clause-short
returns-clause-short c = is_short
