use Rattle.tower_reader.proofs.Verdicts.{fault_verdict}
use Rattle.tower_reader.proofs.Standing.{tells_tree, tells_fault}
use Rattle.tower_reader.proofs.reader.Reader.finish.Goals as goal

pub returns-clause-ok : goal.returns-clause-ok
returns-clause-ok c = tells_tree c.args.self _ c.verdict.ensures.gives

pub returns-clause-fault : goal.returns-clause-fault
returns-clause-fault c = tells_fault c.args.self _ c.verdict.ensures.gives

pub returns-clause-told : goal.returns-clause-told
returns-clause-told c = λ bs f h g. c.verdict.ensures.told bs f h (fault_verdict bs f g)
