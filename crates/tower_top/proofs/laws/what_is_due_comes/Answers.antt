use Rattle.tower_top.specs.Top.{request_of}
use Rattle.tower_top.proofs.Exact.{comes}
use Rattle.tower_top.proofs.ExactCommands.{request_exact}
use Rattle.tower_top.proofs.laws.what_is_due_comes.Goals as goal

pub returns : goal.returns
returns c = λ words call status s out err ends tells calm due. comes (request_of words) (request_exact words) call tells calm s out err due status ends
