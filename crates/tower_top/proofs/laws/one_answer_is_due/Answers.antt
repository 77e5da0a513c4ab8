use Rattle.tower_top.specs.Top.{request_of}
use Rattle.tower_top.proofs.Exact.{one_answer}
use Rattle.tower_top.proofs.ExactCommands.{request_exact}
use Rattle.tower_top.proofs.laws.one_answer_is_due.Goals as goal

pub returns : goal.returns
returns c = λ words held tells s t o p e f a b. one_answer held (request_of words) (request_exact words) tells s t o p e f a b
