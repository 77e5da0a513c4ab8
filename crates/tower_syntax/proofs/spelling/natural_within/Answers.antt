use Rattle.std.proofs.Common.{◌≡◌, arith, sym, ◌∙◌}
use Rattle.std.proofs.lemmas.Fmt.{decimal_injective}
use Rattle.tower_syntax.proofs.spelling.natural_within.Goals as goal
use Rattle.tower_syntax.proofs.spelling.natural_within.Goals.{else-low-number-via-then-low-number+else-number-high, else-low-number-via-else-low-number}

pub returns-else-low-number-clause-within : goal.returns-else-low-number-clause-within
returns-else-low-number-clause-within c = λ n above below e.
    let same : c.in_ok-number.number ≡ n = decimal_injective _ _ (omega arith) (omega arith) (sym c.in_ok-number.ensures ∙ e) in
    elim c.else-low-number.branch [ else-low-number-via-then-low-number+else-number-high w ↦ omega arith | else-low-number-via-else-low-number w ↦ omega arith ]
