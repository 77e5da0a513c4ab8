use Rattle.std.proofs.Common.{arith}
use Rattle.task_listing.proofs.Decimals.{within_is}
use Rattle.task_listing.proofs.number.number_within.Goals as goal

pub returns-clause-value : goal.returns-clause-value
returns-clause-value c = within_is _ _ _ _ (omega arith) c.natural_within.ensures.within c.natural_within.ensures.above c.natural_within.ensures.below
