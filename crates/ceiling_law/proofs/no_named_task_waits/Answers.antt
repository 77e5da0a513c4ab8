use Rattle.ceiling_law.proofs.no_named_task_waits.Goals as goal
use Rattle.ceiling_law.proofs.Waits.{never_waits}

pub returns : goal.returns
returns c = never_waits c.args.arch.now c.args.program.now c.requires.numbered c.requires.sound
