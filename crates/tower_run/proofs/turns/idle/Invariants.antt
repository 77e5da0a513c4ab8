use Rattle.tower_run.specs.Going.{idling, most_turns}
use Rattle.tower_run.proofs.Carried.{SoFar}
use Rattle.tower_run.proofs.turns.idle.Given as goal

abbrev pub invariant-steps : goal.invariant-steps
invariant-steps g l = SoFar g.O.Sink.written g.O.Sink.faults idling idling l.job l.initial.run l.initial.out l.run l.out

abbrev pub decreases-steps : goal.decreases-steps
decreases-steps g l = most_turns l.job.limit l.run
