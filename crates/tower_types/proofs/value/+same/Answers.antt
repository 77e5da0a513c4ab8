use Rattle.std.proofs.Common.{arith}
use Rattle.std.proofs.lemmas.Bool.{false≢true}
use Rattle.tower_types.proofs.Parts.{same_count, same_at}
use Rattle.tower_types.proofs.value.+same.Goals as goal

pub same_all-returns-then-xs-ys : goal.same_all-returns-then-xs-ys
same_all-returns-then-xs-ys t c =
    (λ h. absurd (false≢true h), λ e. absurd (omega (arith, same_count _ _ e)))

pub same_all-returns-then-not-same : goal.same_all-returns-then-not-same
same_all-returns-then-not-same t c =
    (λ h. absurd (false≢true h), λ e. absurd (false≢true (c.if-not-same.ensures.1 (same_at _ _ _ _ _ c.loop-i-test.true c.index-xs-i.is c.index-ys-i.is e))))
