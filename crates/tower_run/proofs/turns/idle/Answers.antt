use Rattle.std.proofs.Common.{arith}
use Rattle.tower_run.specs.declared.going.Turn.TheVariants as turn
use Rattle.tower_run.specs.Going.{idling, going}
use Rattle.tower_run.proofs.Carried.{so_far_none, so_far_more, so_far_going, composed, idle_exits, idle_ends, idle_continues, stopped_not_went, stopped_not_passed, failed_not_went, failed_not_passed, went_not_passed}
use Rattle.tower_run.proofs.turns.idle.Goals as goal

pub steps-init : goal.steps-init
steps-init g c = so_far_none g.O.Sink.written g.O.Sink.faults idling c.args.job.now c.args.run.now c.args.out.now

pub go-requires : goal.go-requires
go-requires g c = so_far_going g.O.Sink.written g.O.Sink.faults idling idling c.args.job.now c.args.run.now c.steps.run c.args.out.now c.steps.out c.requires c.steps.invariant

pub steps-preserved : goal.steps-preserved
steps-preserved g c =
    let s = c.in-Went.ensures.stepped in
    so_far_more g.O.Sink.written g.O.Sink.faults idling idling (going 0) c.args.job.now c.args.run.now c.steps.run c.go.new.run c.args.out.now c.steps.out c.go.new.out c.steps.invariant c.in-Went.ensures.carries
    (idle_continues g.O.Sink.written g.O.Sink.faults s.0 c.args.job.now c.steps.run c.go.new.run c.steps.out c.go.new.out s.2 c.in-Went.ensures.carries)

pub steps-smaller : goal.steps-smaller
steps-smaller g c = omega (arith, c.in-Went.ensures.one)

pub returns-in-Passed : goal.returns-in-Passed
returns-in-Passed g c =
    composed g.O.Sink.written g.O.Sink.faults idling idling c.args.job.now c.args.run.now c.steps.run c.go.new.run c.args.out.now c.steps.out c.go.new.out turn.Went c.steps.invariant went_not_passed
    (idle_ends g.O.Sink.written g.O.Sink.faults c.args.job.now c.steps.run c.go.new.run c.steps.out c.go.new.out c.in-Passed.ensures.carries)

pub returns-in-Stopped : goal.returns-in-Stopped
returns-in-Stopped g c =
    composed g.O.Sink.written g.O.Sink.faults idling idling c.args.job.now c.args.run.now c.steps.run c.go.new.run c.args.out.now c.steps.out c.go.new.out turn.Stopped c.steps.invariant stopped_not_passed
    (idle_exits g.O.Sink.written g.O.Sink.faults c.args.job.now c.steps.run c.go.new.run c.steps.out c.go.new.out turn.Stopped stopped_not_went stopped_not_passed c.in-Stopped.ensures.ready c.in-Stopped.ensures.carries)

pub returns-in-Failed : goal.returns-in-Failed
returns-in-Failed g c =
    composed g.O.Sink.written g.O.Sink.faults idling idling c.args.job.now c.args.run.now c.steps.run c.go.new.run c.args.out.now c.steps.out c.go.new.out turn.Failed c.steps.invariant failed_not_passed
    (idle_exits g.O.Sink.written g.O.Sink.faults c.args.job.now c.steps.run c.go.new.run c.steps.out c.go.new.out turn.Failed failed_not_went failed_not_passed c.in-Failed.ensures.ready c.in-Failed.ensures.carries)
