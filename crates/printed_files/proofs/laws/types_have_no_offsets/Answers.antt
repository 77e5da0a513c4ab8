use Rattle.printed_files.proofs.FileSame
use Rattle.printed_files.proofs.laws.types_have_no_offsets.Goals as goal

pub returns : goal.returns
returns c = FileSame.types_have_no_offsets
