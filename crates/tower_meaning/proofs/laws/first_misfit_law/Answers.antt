use Rattle.tower_meaning.proofs.Replayed.{replayed_comes_to, no_misfit_is_defined}
use Rattle.tower_meaning.proofs.laws.first_misfit_law.Goals as goal

pub returns-clause-comes_to : goal.returns-clause-comes_to
returns-clause-comes_to c = replayed_comes_to

pub returns-clause-no_misfit : goal.returns-clause-no_misfit
returns-clause-no_misfit c = no_misfit_is_defined
