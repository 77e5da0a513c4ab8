use Rattle.task_listing.proofs.Readings.{of_one, faultless, either, apart}
use Rattle.task_listing.proofs.laws.listing_law.Goals as goal

pub returns-clause-one : goal.returns-clause-one
returns-clause-one c = of_one

pub returns-clause-faultless : goal.returns-clause-faultless
returns-clause-faultless c = faultless

pub returns-clause-either : goal.returns-clause-either
returns-clause-either c = either

pub returns-clause-apart : goal.returns-clause-apart
returns-clause-apart c = apart
