use Rattle.tower_meaning.proofs.laws.meaning_keeps_types.Goals as goal
use Rattle.tower_meaning.proofs.KeepsTypes.{keeps_types, brings_fitting}

pub returns : goal.returns
returns c = record { keeps = keeps_types; brings = brings_fitting }
