use Rattle.lock_reduction.proofs.reduce.Goals as goal
use Rattle.lock_reduction.proofs.Instance.{reduced}

pub returns : goal.returns
returns c = reduced c.args.arch.now c.args.program.now c.requires.numbered c.requires.typed c.requires.shaped c.requires.alone
