use Rattle.std.proofs.Common.{Ok, Err}
use Rattle.tower_reader.proofs.Verdicts.{verdict_is, spells_verdict, fault_verdict}
use Rattle.tower_reader.proofs.laws.verdict_law.Goals as goal

pub returns-clause-spells : goal.returns-clause-spells
returns-clause-spells c = λ bs r. (verdict_is bs (Ok r), spells_verdict bs r)

pub returns-clause-fault : goal.returns-clause-fault
returns-clause-fault c = λ bs f. (verdict_is bs (Err f), fault_verdict bs f)
