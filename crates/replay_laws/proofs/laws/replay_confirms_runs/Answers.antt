use Rattle.replay_laws.proofs.Confirmed.{confirms, confirms_programs}
use Rattle.replay_laws.proofs.laws.replay_confirms_runs.Goals as goal

pub returns-clause-sound : goal.returns-clause-sound
returns-clause-sound c = confirms

pub returns-clause-programs : goal.returns-clause-programs
returns-clause-programs c = confirms_programs
