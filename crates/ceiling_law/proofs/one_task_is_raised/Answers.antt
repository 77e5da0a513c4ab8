use Rattle.ceiling_law.proofs.one_task_is_raised.Goals as goal
use Rattle.ceiling_law.proofs.Raised.{one_is_raised}

pub returns : goal.returns
returns c = one_is_raised c.args.arch.now c.args.program.now c.requires.numbered c.requires.sound
