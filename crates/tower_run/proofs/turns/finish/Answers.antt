use Rattle.std.proofs.Common.{arith}
use Rattle.tower_run.specs.declared.going.Turn.TheVariants as turn
use Rattle.tower_run.specs.Going.{ending, unchosen}
use Rattle.tower_run.proofs.Carried.{so_far_none, so_far_more, so_far_going, composed, finish_exits, finish_ends, finish_continues, stopped_not_went, stopped_not_passed, failed_not_went, failed_not_passed, went_not_passed}
use Rattle.tower_run.proofs.turns.finish.Goals as goal

pub steps-init : goal.steps-init
steps-init g c = so_far_none g.O.Sink.written g.O.Sink.faults ending c.args.job.now c.args.run.now c.args.out.now

pub go_unchosen-requires : goal.go_unchosen-requires
go_unchosen-requires g c = so_far_going g.O.Sink.written g.O.Sink.faults ending ending c.args.job.now c.args.run.now c.steps.run c.args.out.now c.steps.out c.requires c.steps.invariant

pub steps-preserved : goal.steps-preserved
steps-preserved g c =
    so_far_more g.O.Sink.written g.O.Sink.faults ending ending unchosen c.args.job.now c.args.run.now c.steps.run c.go_unchosen.new.run c.args.out.now c.steps.out c.go_unchosen.new.out c.steps.invariant c.in-Went.ensures.carries
    (finish_continues g.O.Sink.written g.O.Sink.faults c.args.job.now c.steps.run c.go_unchosen.new.run c.steps.out c.go_unchosen.new.out c.in-Went.ensures.left c.in-Went.ensures.one c.in-Went.ensures.carries)

pub steps-smaller : goal.steps-smaller
steps-smaller g c = omega (arith, c.in-Went.ensures.one)

pub returns-in-Passed-clause-carries : goal.returns-in-Passed-clause-carries
returns-in-Passed-clause-carries g c =
    composed g.O.Sink.written g.O.Sink.faults ending ending c.args.job.now c.args.run.now c.steps.run c.go_unchosen.new.run c.args.out.now c.steps.out c.go_unchosen.new.out turn.Went c.steps.invariant went_not_passed
    (finish_ends g.O.Sink.written g.O.Sink.faults c.args.job.now c.steps.run c.go_unchosen.new.run c.steps.out c.go_unchosen.new.out c.in-Passed.ensures.carries)

pub returns-in-Stopped-clause-carries : goal.returns-in-Stopped-clause-carries
returns-in-Stopped-clause-carries g c =
    composed g.O.Sink.written g.O.Sink.faults ending ending c.args.job.now c.args.run.now c.steps.run c.go_unchosen.new.run c.args.out.now c.steps.out c.go_unchosen.new.out turn.Stopped c.steps.invariant stopped_not_passed
    (finish_exits g.O.Sink.written g.O.Sink.faults c.args.job.now c.steps.run c.go_unchosen.new.run c.steps.out c.go_unchosen.new.out c.in-Stopped.ensures.left turn.Stopped stopped_not_went stopped_not_passed c.in-Stopped.ensures.carries)

pub returns-in-Failed-clause-carries : goal.returns-in-Failed-clause-carries
returns-in-Failed-clause-carries g c =
    composed g.O.Sink.written g.O.Sink.faults ending ending c.args.job.now c.args.run.now c.steps.run c.go_unchosen.new.run c.args.out.now c.steps.out c.go_unchosen.new.out turn.Failed c.steps.invariant failed_not_passed
    (finish_exits g.O.Sink.written g.O.Sink.faults c.args.job.now c.steps.run c.go_unchosen.new.run c.steps.out c.go_unchosen.new.out c.in-Failed.ensures.left turn.Failed failed_not_went failed_not_passed c.in-Failed.ensures.carries)
