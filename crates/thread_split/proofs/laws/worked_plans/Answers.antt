use Rattle.std.proofs.Common.{refl}
use Rattle.thread_split.proofs.laws.worked_plans.Goals as goal

pub returns : goal.returns
returns c = record { of_dia = refl; of_walks = refl; of_share = refl; of_flight = refl }
