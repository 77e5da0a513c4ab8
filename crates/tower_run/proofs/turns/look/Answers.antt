use Rattle.std.proofs.Common.{sym, arith}
use Rattle.task_machine.specs.State.{ready}
use Rattle.tower_run.specs.declared.going.Turn.TheVariants as turn
use Rattle.tower_run.specs.Going.{looking, going_on}
use Rattle.tower_run.proofs.Carried.{so_far_none, so_far_more, so_far_going, composed, look_exits, look_is_over, look_continues, left_is, stepped_here, passed_not_ready, stopped_not_went, stopped_not_passed, failed_not_went, failed_not_passed, went_not_passed}
use Rattle.tower_run.proofs.turns.look.Goals as goal

pub steps-init : goal.steps-init
steps-init g c = record { so_far = so_far_none g.O.Sink.written g.O.Sink.faults (looking c.args.k c.args.x) c.args.job.now c.args.run.now c.args.out.now; ready = c.requires.ready }

pub go_on-requires-clause-going : goal.go_on-requires-clause-going
go_on-requires-clause-going g c =
    so_far_going g.O.Sink.written g.O.Sink.faults (looking c.args.k c.args.x) (looking c.args.k c.args.x) c.args.job.now c.args.run.now c.steps.run c.args.out.now c.steps.out c.requires.going c.steps.invariant.so_far

pub steps-preserved : goal.steps-preserved
steps-preserved g c =
    let w = g.O.Sink.written in
    let f = g.O.Sink.faults in
    let part = looking c.args.k c.args.x in
    let stepped = stepped_here c.args.x c.steps.run c.go_on.new.run c.in-Went.ensures.stepped in
    record {
      so_far = so_far_more w f part part (going_on c.args.k c.args.x) c.args.job.now c.args.run.now c.steps.run c.go_on.new.run c.args.out.now c.steps.out c.go_on.new.out c.steps.invariant.so_far c.in-Went.ensures.carries
          (look_continues w f c.args.k c.args.x c.args.job.now c.steps.run c.go_on.new.run c.steps.out c.go_on.new.out c.in-Went.ensures.carries stepped c.in-Some.field-0 (sym c.in-Some.ensures));
      ready = (left_is w f c.args.x c.in-Some.field-0 c.steps.run c.go_on.new.run stepped (sym c.in-Some.ensures)).1;
    }

pub steps-smaller : goal.steps-smaller
steps-smaller g c = omega (arith, c.in-Went.ensures.one)

pub returns-in-None-clause-carries : goal.returns-in-None-clause-carries
returns-in-None-clause-carries g c =
    let w = g.O.Sink.written in
    let f = g.O.Sink.faults in
    let part = looking c.args.k c.args.x in
    composed w f part part c.args.job.now c.args.run.now c.steps.run c.go_on.new.run c.args.out.now c.steps.out c.go_on.new.out turn.Went c.steps.invariant.so_far went_not_passed
    (look_is_over w f c.args.k c.args.x c.args.job.now c.steps.run c.go_on.new.run c.steps.out c.go_on.new.out c.in-Went.ensures.carries (stepped_here c.args.x c.steps.run c.go_on.new.run c.in-Went.ensures.stepped) (sym c.in-None.ensures))

pub returns-in-Passed-clause-carries : goal.returns-in-Passed-clause-carries
returns-in-Passed-clause-carries g c = absurd (passed_not_ready (ready c.steps.run.machine) c.args.x c.steps.invariant.ready c.in-Passed.ensures.ready)

pub returns-in-Passed-clause-never_passes : goal.returns-in-Passed-clause-never_passes
returns-in-Passed-clause-never_passes g c = passed_not_ready (ready c.steps.run.machine) c.args.x c.steps.invariant.ready c.in-Passed.ensures.ready

pub returns-in-Stopped-clause-carries : goal.returns-in-Stopped-clause-carries
returns-in-Stopped-clause-carries g c =
    let w = g.O.Sink.written in
    let f = g.O.Sink.faults in
    let part = looking c.args.k c.args.x in
    composed w f part part c.args.job.now c.args.run.now c.steps.run c.go_on.new.run c.args.out.now c.steps.out c.go_on.new.out turn.Stopped c.steps.invariant.so_far stopped_not_passed
    (look_exits w f c.args.k c.args.x c.args.job.now c.steps.run c.go_on.new.run c.steps.out c.go_on.new.out turn.Stopped stopped_not_went stopped_not_passed c.in-Stopped.ensures.carries)

pub returns-in-Failed-clause-carries : goal.returns-in-Failed-clause-carries
returns-in-Failed-clause-carries g c =
    let w = g.O.Sink.written in
    let f = g.O.Sink.faults in
    let part = looking c.args.k c.args.x in
    composed w f part part c.args.job.now c.args.run.now c.steps.run c.go_on.new.run c.args.out.now c.steps.out c.go_on.new.out turn.Failed c.steps.invariant.so_far failed_not_passed
    (look_exits w f c.args.k c.args.x c.args.job.now c.steps.run c.go_on.new.run c.steps.out c.go_on.new.out turn.Failed failed_not_went failed_not_passed c.in-Failed.ensures.carries)
