use Rattle.std.proofs.Common.{map, ap}
use Rattle.tower_syntax.specs.View.{body_of}
use Rattle.arch_types.proofs.Turned.{none_turned, more_turned, all_turned, turn_stops, went_all, stops_all, exit_gives}
use Rattle.tower_syntax.specs.NamedView.{named_hpart_of}
use Rattle.arch_types.specs.Outline.{each, callback_of}
use Rattle.arch_types.proofs.check.check_bodies.Goals as goal

pub loop-part-init : goal.loop-part-init
loop-part-init c = none_turned _ _ _ _ _ (ap (map body_of) c.new-made.ensures)

pub loop-part-preserved : goal.loop-part-preserved
loop-part-preserved c = more_turned _ _ _ _ _ _ _ _ _ c.part-item.is c.loop-part-test.true c.loop-part.invariant c.in_ok-add_body.ensures.ok

pub returns-in_err-add_body : goal.returns-in_err-add_body
returns-in_err-add_body c = exit_gives _ _ _ _ c.from_residual.ensures.1 (stops_all _ (each callback_of (map named_hpart_of c.args.parts.now)) _ (turn_stops _ _ _ _ _ _ _ _ _ c.part-item.is c.loop-part-test.true c.loop-part.invariant c.in_err-add_body.ensures.err))

pub returns : goal.returns
returns c = went_all _ _ (each callback_of (map named_hpart_of c.args.parts.now)) (all_turned _ _ _ _ _ _ _ c.loop-part-test.false c.loop-part.invariant)
