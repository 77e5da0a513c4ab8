use Rattle.tower_reader.proofs.ReadsBack.{reads_back}
use Rattle.tower_reader.proofs.laws.print_reads_back.Goals as goal

pub returns : goal.returns
returns c = reads_back
