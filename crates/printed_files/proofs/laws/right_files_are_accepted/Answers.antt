use Rattle.printed_files.proofs.Accepted
use Rattle.printed_files.proofs.laws.right_files_are_accepted.Goals as goal

pub returns : goal.returns
returns c = Accepted.right_files_are_accepted
