use Rattle.std.proofs.Common.{◌-◌}
use Rattle.tower_run.specs.Going.{repeating}
use Rattle.tower_run.proofs.Carried.{SoFar}
use Rattle.tower_run.proofs.choices.repeat.Given as goal

abbrev pub invariant-loop : goal.invariant-loop
invariant-loop g l = SoFar g.O.Sink.written g.O.Sink.faults (repeating (l.times - l.counter) l.choice) (repeating l.times l.choice) l.job l.initial.run l.initial.out l.run l.out
