use Rattle.declared_names.proofs.Accepted.{accepted_has_names}
use Rattle.declared_names.proofs.laws.names_law.Goals as goal

pub returns : goal.returns
returns c = accepted_has_names
