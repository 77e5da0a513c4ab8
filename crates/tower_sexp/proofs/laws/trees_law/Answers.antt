use Rattle.tower_sexp.proofs.Spelled.{faultless_spells, spelled_is}
use Rattle.tower_sexp.proofs.laws.trees_law.Goals as goal

pub returns-clause-spells : goal.returns-clause-spells
returns-clause-spells c = faultless_spells

pub returns-clause-one : goal.returns-clause-one
returns-clause-one c = spelled_is
