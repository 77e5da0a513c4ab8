use Rattle.tower_top.specs.Top.{request_of}
use Rattle.tower_top.proofs.Exact.{answer_is_due}
use Rattle.tower_top.proofs.laws.answers_are_due.Goals as goal

pub returns : goal.returns
returns c = λ words held s text has. answer_is_due held (request_of words) s text has
