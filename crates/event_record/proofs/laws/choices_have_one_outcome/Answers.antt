use Rattle.event_record.proofs.Outcomes.{choices_law}
use Rattle.event_record.proofs.laws.choices_have_one_outcome.Goals as goal

pub returns : goal.returns
returns c = choices_law
