use Rattle.printed_files.proofs.Capped
use Rattle.printed_files.proofs.laws.lines_are_capped.Goals as goal

pub returns : goal.returns
returns c = Capped.lines_are_capped
