use Rattle.replay_laws.proofs.Confirmed.{refutes}
use Rattle.replay_laws.proofs.laws.misfits_refute.Goals as goal

pub returns : goal.returns
returns c = refutes
