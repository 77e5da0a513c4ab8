use Rattle.task_listing.proofs.Lengths.{listing_long}
use Rattle.task_listing.proofs.laws.length_law.Goals as goal

pub returns : goal.returns
returns c = listing_long
