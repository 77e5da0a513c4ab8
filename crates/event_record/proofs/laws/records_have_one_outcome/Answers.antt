use Rattle.event_record.proofs.Outcomes.{records_law}
use Rattle.event_record.proofs.laws.records_have_one_outcome.Goals as goal

pub returns : goal.returns
returns c = records_law
