use Rattle.ceiling_law.proofs.ceiling_law.Goals as goal
use Rattle.ceiling_law.proofs.Named.{names_the_same, names_the_ready}

pub returns-clause-same : goal.returns-clause-same
returns-clause-same c events steps r fit e k = names_the_same c.args.arch.now c.args.program.now events c.requires.numbered c.requires.sound fit steps r e k

pub returns-clause-ready : goal.returns-clause-ready
returns-clause-ready c events steps r fit e k x i = names_the_ready c.args.arch.now c.args.program.now events c.requires.numbered c.requires.sound fit steps r e k x i
