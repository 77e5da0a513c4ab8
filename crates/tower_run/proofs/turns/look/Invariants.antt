use Rattle.std.proofs.Common.{◌≡◌, Some, true, slice_get}
use Rattle.task_machine.specs.State.{ready}
use Rattle.tower_run.specs.Going.{looking, most_turns}
use Rattle.tower_run.proofs.Carried.{SoFar}
use Rattle.tower_run.proofs.turns.look.Given as goal

abbrev pub invariant-steps : goal.invariant-steps
invariant-steps g l = record {
  so_far : SoFar g.O.Sink.written g.O.Sink.faults (looking l.k l.x) (looking l.k l.x) l.job l.initial.run l.initial.out l.run l.out;
  ready : slice_get (ready l.run.machine) l.x ≡ Some true;
}

abbrev pub decreases-steps : goal.decreases-steps
decreases-steps g l = most_turns l.job.limit l.run
