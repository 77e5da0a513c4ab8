use Rattle.std.proofs.Common.{◌∙◌, [], drop, sym}
use Rattle.tower_syntax.specs.declared.event.Choice.TheVariants as choice
use Rattle.tower_run.specs.declared.going.Turn.TheVariants as turn
use Rattle.tower_run.specs.Going.{choosing}
use Rattle.tower_run.proofs.Carried.{so_far_none, so_far_going, composed, choose_ends, choose_left, choose_next, choose_stop, drop_none, never_passed, stopped_not_went, stopped_not_passed, failed_not_went, failed_not_passed, went_not_passed}
use Rattle.tower_run.proofs.choices.choose.Goals as goal

pub loop-choice-init : goal.loop-choice-init
loop-choice-init g c = so_far_none g.O.Sink.written g.O.Sink.faults (choosing c.args.choices.now) c.args.job.now c.args.run.now c.args.out.now

pub apply_next-requires : goal.apply_next-requires
apply_next-requires g c =
    so_far_going g.O.Sink.written g.O.Sink.faults (choosing (drop c.loop-choice.choice-index c.args.choices.now)) (choosing c.args.choices.now) c.args.job.now c.args.run.now c.loop-choice.run c.args.out.now c.loop-choice.out c.requires c.loop-choice.invariant

pub finish-requires : goal.finish-requires
finish-requires g c =
    so_far_going g.O.Sink.written g.O.Sink.faults (choosing (drop c.loop-choice.choice-index c.args.choices.now)) (choosing c.args.choices.now) c.args.job.now c.args.run.now c.loop-choice.run c.args.out.now c.loop-choice.out c.requires c.loop-choice.invariant

pub returns-then-finished : goal.returns-then-finished
returns-then-finished g c =
    composed g.O.Sink.written g.O.Sink.faults (choosing (drop c.loop-choice.choice-index c.args.choices.now)) (choosing c.args.choices.now) c.args.job.now c.args.run.now c.loop-choice.run c.loop-choice.run c.args.out.now c.loop-choice.out c.loop-choice.out turn.Went c.loop-choice.invariant went_not_passed
    (choose_ends g.O.Sink.written g.O.Sink.faults choice.Idle (drop c.loop-choice.choice-index c.args.choices.now) c.args.job.now c.loop-choice.run c.loop-choice.run c.loop-choice.out c.loop-choice.out (sym c.finished.ensures ∙ c.if-finished.true))

pub loop-choice-preserved : goal.loop-choice-preserved
loop-choice-preserved g c =
    choose_next g.O.Sink.written g.O.Sink.faults c.args.choices.now c.loop-choice.choice-index _ c.args.job.now c.args.run.now c.loop-choice.run c.apply_next.new.run c.args.out.now c.loop-choice.out c.apply_next.new.out c.loop-choice-test.true
    (sym c.finished.ensures ∙ c.if-finished.false) c.loop-choice.invariant c.in-Went.ensures.carries

pub returns-in-Passed : goal.returns-in-Passed
returns-in-Passed g c = absurd c.in-Passed.ensures.never_passes

pub returns-in-Stopped : goal.returns-in-Stopped
returns-in-Stopped g c =
    choose_stop g.O.Sink.written g.O.Sink.faults c.args.choices.now c.loop-choice.choice-index _ c.args.job.now c.args.run.now c.loop-choice.run c.apply_next.new.run c.args.out.now c.loop-choice.out c.apply_next.new.out c.loop-choice-test.true
    (sym c.finished.ensures ∙ c.if-finished.false) c.loop-choice.invariant turn.Stopped stopped_not_went stopped_not_passed c.in-Stopped.ensures.carries

pub returns-in-Failed : goal.returns-in-Failed
returns-in-Failed g c =
    choose_stop g.O.Sink.written g.O.Sink.faults c.args.choices.now c.loop-choice.choice-index _ c.args.job.now c.args.run.now c.loop-choice.run c.apply_next.new.run c.args.out.now c.loop-choice.out c.apply_next.new.out c.loop-choice-test.true
    (sym c.finished.ensures ∙ c.if-finished.false) c.loop-choice.invariant turn.Failed failed_not_went failed_not_passed c.in-Failed.ensures.carries

pub returns : goal.returns
returns g c =
    composed g.O.Sink.written g.O.Sink.faults (choosing []) (choosing c.args.choices.now) c.args.job.now c.args.run.now c.loop-choice.run c.finish.new.run c.args.out.now c.loop-choice.out c.finish.new.out c.finish.result
    (choose_left g.O.Sink.written g.O.Sink.faults c.args.choices.now [] (drop c.loop-choice.choice-index c.args.choices.now) c.args.job.now c.args.run.now c.loop-choice.run c.args.out.now c.loop-choice.out
    (drop_none c.args.choices.now c.loop-choice.choice-index c.loop-choice-test.false) c.loop-choice.invariant) (never_passed c.finish.result c.finish.ensures.never_passes) c.finish.ensures.carries
