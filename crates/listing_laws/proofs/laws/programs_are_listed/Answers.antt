use Rattle.listing_laws.proofs.Listed.{listed}
use Rattle.listing_laws.proofs.laws.programs_are_listed.Goals as goal

pub returns : goal.returns
returns c = listed
