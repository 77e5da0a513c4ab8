use Rattle.tower_syntax.specs.View.{events_of}
use Rattle.tower_meaning.specs.System.{system_of}
use Rattle.atomic_state.specs.Fitting.{IsStateOf}
use Rattle.atomic_state.proofs.Tried.{IsTried}
use Rattle.atomic_state.proofs.trial.replay.Given as goal

abbrev pub invariant-loop-k : goal.invariant-loop-k
invariant-loop-k l = record {
  made : IsStateOf l.arch (events_of l.events) l.state;
  tried : IsTried (system_of l.arch) (events_of l.events) l.marks l.k l.state.state;
}
