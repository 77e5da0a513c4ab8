use Rattle.std.proofs.Common.{◌-◌}
use Rattle.tower_run.specs.declared.going.Turn.TheVariants as turn
use Rattle.tower_run.specs.Going.{repeating}
use Rattle.tower_run.proofs.Carried.{so_far_going, composed, repeat_none, repeat_more, repeat_over, repeat_exits, repeat_rests, stopped_not_went, stopped_not_passed, failed_not_went, failed_not_passed, went_not_passed}
use Rattle.tower_run.proofs.choices.repeat.Goals as goal

pub loop-init : goal.loop-init
loop-init g c = repeat_none g.O.Sink.written g.O.Sink.faults c.args.choice c.args.times c.args.job.now c.args.run.now c.args.out.now

pub once-requires : goal.once-requires
once-requires g c =
    so_far_going g.O.Sink.written g.O.Sink.faults (repeating (c.args.times - c.loop.counter) c.args.choice) (repeating c.args.times c.args.choice) c.args.job.now c.args.run.now c.loop.run c.args.out.now c.loop.out c.requires c.loop.invariant

pub loop-preserved : goal.loop-preserved
loop-preserved g c =
    repeat_more g.O.Sink.written g.O.Sink.faults c.args.choice c.loop.counter c.args.times c.args.job.now c.args.run.now c.loop.run c.once.new.run c.args.out.now c.loop.out c.once.new.out c.loop-test.true c.loop.invariant c.in-Went.ensures.carries

pub returns-in-Passed : goal.returns-in-Passed
returns-in-Passed g c =
    composed g.O.Sink.written g.O.Sink.faults (repeating (c.args.times - c.loop.counter) c.args.choice) (repeating c.args.times c.args.choice) c.args.job.now c.args.run.now c.loop.run c.once.new.run c.args.out.now c.loop.out c.once.new.out turn.Went c.loop.invariant went_not_passed
    (repeat_rests g.O.Sink.written g.O.Sink.faults c.args.choice (c.args.times - c.loop.counter) c.args.job.now c.loop.run c.once.new.run c.loop.out c.once.new.out c.in-Passed.ensures.carries)

pub returns-in-Stopped : goal.returns-in-Stopped
returns-in-Stopped g c =
    composed g.O.Sink.written g.O.Sink.faults (repeating (c.args.times - c.loop.counter) c.args.choice) (repeating c.args.times c.args.choice) c.args.job.now c.args.run.now c.loop.run c.once.new.run c.args.out.now c.loop.out c.once.new.out turn.Stopped c.loop.invariant stopped_not_passed
    (repeat_exits g.O.Sink.written g.O.Sink.faults c.args.choice c.loop.counter c.args.times c.args.job.now c.loop.run c.once.new.run c.loop.out c.once.new.out turn.Stopped c.loop-test.true c.in-Stopped.ensures.stops stopped_not_went stopped_not_passed c.in-Stopped.ensures.carries)

pub returns-in-Failed : goal.returns-in-Failed
returns-in-Failed g c =
    composed g.O.Sink.written g.O.Sink.faults (repeating (c.args.times - c.loop.counter) c.args.choice) (repeating c.args.times c.args.choice) c.args.job.now c.args.run.now c.loop.run c.once.new.run c.args.out.now c.loop.out c.once.new.out turn.Failed c.loop.invariant failed_not_passed
    (repeat_exits g.O.Sink.written g.O.Sink.faults c.args.choice c.loop.counter c.args.times c.args.job.now c.loop.run c.once.new.run c.loop.out c.once.new.out turn.Failed c.loop-test.true c.in-Failed.ensures.stops failed_not_went failed_not_passed c.in-Failed.ensures.carries)

pub returns : goal.returns
returns g c = repeat_over g.O.Sink.written g.O.Sink.faults c.args.choice c.loop.counter c.args.times c.args.job.now c.args.run.now c.loop.run c.args.out.now c.loop.out c.loop-test.false c.loop.invariant
