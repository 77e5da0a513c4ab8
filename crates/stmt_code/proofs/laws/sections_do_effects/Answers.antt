use Rattle.stmt_code.proofs.laws.sections_do_effects.Goals as goal
use Rattle.stmt_code.proofs.Sections.{do_effects, are_short}

pub returns-clause-effects : goal.returns-clause-effects
returns-clause-effects c = do_effects

pub returns-clause-short : goal.returns-clause-short
returns-clause-short c = are_short
