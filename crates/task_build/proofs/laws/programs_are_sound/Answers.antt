use Rattle.task_build.proofs.laws.programs_are_sound.Goals as goal
use Rattle.task_build.proofs.Closing.{alone, sound}
use Rattle.task_build.proofs.Ruled.{rules_kept}
use Rattle.task_build.proofs.Places.{places_small}

pub returns-clause-sound : goal.returns-clause-sound
returns-clause-sound c = sound

pub returns-clause-alone : goal.returns-clause-alone
returns-clause-alone c = alone

pub returns-clause-rules : goal.returns-clause-rules
returns-clause-rules c = rules_kept

pub returns-clause-places : goal.returns-clause-places
returns-clause-places c = places_small
