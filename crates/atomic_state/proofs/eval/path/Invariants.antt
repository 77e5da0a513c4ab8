use Rattle.tower_syntax.specs.View.{place_of}
use Rattle.atomic_state.specs.FrameView.{env_of}
use Rattle.atomic_state.proofs.Paths.{IsSoFar}
use Rattle.atomic_state.proofs.eval.path.Given as goal

abbrev pub invariant-loop-step : goal.invariant-loop-step
invariant-loop-step l = IsSoFar (env_of l.frame) (place_of l.p) l.step-items l.step-index l.path.items
