use Rattle.std.proofs.Common.{◌≡◌}
use Rattle.tower_types.specs.View.{value_of}
use Rattle.tower_syntax.specs.View.{handler_of}
use Rattle.atomic_state.specs.Items.{effect_in}
use Rattle.atomic_state.proofs.Handled.{IsCalled}
use Rattle.atomic_state.proofs.handle.call_all.Given as goal

abbrev pub invariant-loop-body : goal.invariant-loop-body
invariant-loop-body l = record {
  called : IsCalled l.arch (handler_of l.handler) (value_of l.message) l.body-items (effect_in l.initial.frame) l.body-index (effect_in l.frame);
  before : l.frame.states.before ≡ l.initial.frame.states.before;
}
