use Rattle.std.proofs.Common.{drop}
use Rattle.tower_run.specs.Going.{choosing}
use Rattle.tower_run.proofs.Carried.{SoFar}
use Rattle.tower_run.proofs.choices.choose.Given as goal

abbrev pub invariant-loop-choice : goal.invariant-loop-choice
invariant-loop-choice g l = SoFar g.O.Sink.written g.O.Sink.faults (choosing (drop l.choice-index l.choices)) (choosing l.choices) l.job l.initial.run l.initial.out l.run l.out
