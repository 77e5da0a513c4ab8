use Rattle.event_record.proofs.Outcomes.{orders_law}
use Rattle.event_record.proofs.laws.orders_have_one_outcome.Goals as goal

pub returns : goal.returns
returns c = orders_law
