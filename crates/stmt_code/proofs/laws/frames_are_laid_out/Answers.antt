use Rattle.stmt_code.proofs.laws.frames_are_laid_out.Goals as goal
use Rattle.stmt_code.proofs.FramesLaid.{laid_out}

pub returns : goal.returns
returns c = laid_out
