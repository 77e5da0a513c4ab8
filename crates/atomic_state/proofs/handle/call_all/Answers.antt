use Rattle.std.proofs.Common.{◌≡◌, ◌∙◌, length, map, ap, arith}
use Rattle.tower_types.specs.View.{value_of}
use Rattle.tower_syntax.specs.View.{body_of, handler_of}
use Rattle.atomic_state.specs.Items.{effect_in}
use Rattle.atomic_state.proofs.Handled.{names_known, one_called, all_called}
use Rattle.atomic_state.proofs.handle.call_all.Goals as goal

pub call-requires : goal.call-requires
call-requires c =
    names_known c.args.arch.now (handler_of c.args.handler.now) c.as_slice-body-items.result.now c.loop-body.body-index c.body-item.result c.requires
    (ap (map body_of) c.as_slice-body-items.ensures) c.loop-body-test.true c.body-item.is

pub loop-body-preserved : goal.loop-body-preserved
loop-body-preserved c = record {
  called = one_called c.args.arch.now (handler_of c.args.handler.now) (value_of c.args.message.now) c.as_slice-body-items.result.now (ap (map body_of) c.as_slice-body-items.ensures)
      (effect_in c.args.frame.now) (effect_in c.loop-body.frame) (effect_in c.call.new.frame) c.loop-body.body-index c.body-item.result c.loop-body-test.true c.body-item.is
      c.in_ok-call.ensures.effect c.loop-body.invariant.called;
  before = c.call.ensures.before ∙ c.loop-body.invariant.before;
}
