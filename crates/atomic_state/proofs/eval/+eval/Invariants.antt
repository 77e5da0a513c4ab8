use Rattle.std.specs.Option.{option_copied}
use Rattle.tower_syntax.specs.View.{place_of}
use Rattle.atomic_state.specs.FrameView.{env_of}
use Rattle.atomic_state.specs.TreeView.{seen}
use Rattle.atomic_state.proofs.Paths.{IsOnTheWay}
use Rattle.atomic_state.proofs.eval.+eval.Given as goal

abbrev pub invariant-place-loop-step : goal.invariant-place-loop-step
invariant-place-loop-step l = IsOnTheWay (env_of l.frame) (place_of l.p) l.step-items l.step-index (seen (option_copied l.part))
