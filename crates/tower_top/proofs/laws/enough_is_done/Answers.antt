use Rattle.tower_top.proofs.RunLaws.{enough_is_done, done_comes}
use Rattle.tower_top.proofs.laws.enough_is_done.Goals as goal

pub returns-clause-due : goal.returns-clause-due
returns-clause-due c = enough_is_done

pub returns-clause-comes : goal.returns-clause-comes
returns-clause-comes c = done_comes
