use Rattle.std.proofs.Common.{◌≡◌, ℕ, List, subst, arith}
use Rattle.tower_reader.specs.Words.{number_in}
use Rattle.tower_reader.proofs.Numbers.{within_is}
use Rattle.tower_top.proofs.run.number_of.Goals as goal

pub returns-clause-value : goal.returns-clause-value
returns-clause-value c =
    subst (λ (t : List ℕ). c.natural_within.result ≡ number_in 0 1000000000 t) c.as_bytes.ensures.value
    (within_is 0 1000000000 _ _ (omega arith) c.natural_within.ensures.within c.natural_within.ensures.above c.natural_within.ensures.below)
