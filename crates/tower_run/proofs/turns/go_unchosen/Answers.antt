use Rattle.std.proofs.Common.{◌≡◌, ℕ, sym, ◌∙◌}
use Rattle.tower_syntax.specs.View.{events_of}
use Rattle.task_code.specs.Standing.{is_finished}
use Rattle.tower_run.specs.declared.going.Going.{Going}
use Rattle.tower_run.specs.declared.going.Turn.{Turn}
use Rattle.tower_run.specs.declared.going.Turn.TheVariants as turn
use Rattle.tower_run.specs.Going.{going, IsLeftTurn, IsOneTurn, most_turns}
use Rattle.tower_run.proofs.Ready.{unfinished_ready}
use Rattle.tower_run.proofs.Carried.{after_passed, unchosen_went, unchosen_came, same_finished, same_turns}
use Rattle.tower_run.proofs.turns.go_unchosen.Goals as goal

left_as : (r r' : Going) (t : Turn) → is_finished r'.machine.program (events_of r'.machine.events) r'.machine.machine ≡ is_finished r.machine.program (events_of r.machine.events) r.machine.machine → IsLeftTurn r'.machine t → IsLeftTurn r.machine t
left_as r r' turn.Went e h = sym e ∙ h
left_as r r' turn.Passed e h = tt
left_as r r' turn.Stopped e h = sym e ∙ h
left_as r r' turn.Failed e h = sym e ∙ h

one_as : (limit : ℕ) (r r' r2 : Going) (t : Turn) → most_turns limit r' ≡ most_turns limit r → IsOneTurn limit r' r2 t → IsOneTurn limit r r2 t
one_as limit r r' r2 turn.Went e h = sym e ∙ h
one_as limit r r' r2 turn.Passed e h = tt
one_as limit r r' r2 turn.Stopped e h = tt
one_as limit r r' r2 turn.Failed e h = tt

pub event-requires : goal.event-requires
event-requires g c = after_passed g.O.Sink.written g.O.Sink.faults (going c.otherwise-k.result) c.args.job.now c.args.run.now c.go.new.run c.args.out.now c.go.new.out c.requires c.in-Passed.ensures.carries

pub returns-in-Passed-clause-carries : goal.returns-in-Passed-clause-carries
returns-in-Passed-clause-carries g c =
    unchosen_came g.O.Sink.written g.O.Sink.faults c.otherwise-k.result c.args.job.now c.args.run.now c.go.new.run c.event.new.run c.args.out.now c.go.new.out c.event.new.out c.event.result c.in-Passed.ensures.ready c.in-Passed.ensures.carries c.event.ensures.carries

pub returns-in-Passed-clause-left : goal.returns-in-Passed-clause-left
returns-in-Passed-clause-left g c =
    left_as c.args.run.now c.go.new.run c.event.result (same_finished g.O.Sink.written g.O.Sink.faults (going c.otherwise-k.result) c.args.job.now c.args.run.now c.go.new.run c.args.out.now c.go.new.out c.requires c.in-Passed.ensures.carries) c.event.ensures.left

pub returns-in-Passed-clause-one : goal.returns-in-Passed-clause-one
returns-in-Passed-clause-one g c =
    one_as c.args.job.now.limit c.args.run.now c.go.new.run c.event.new.run c.event.result (same_turns g.O.Sink.written g.O.Sink.faults (going c.otherwise-k.result) c.args.job.now c.args.run.now c.go.new.run c.args.out.now c.go.new.out c.requires c.in-Passed.ensures.carries) c.event.ensures.one

pub returns-in-Went-clause-carries : goal.returns-in-Went-clause-carries
returns-in-Went-clause-carries g c = unchosen_went g.O.Sink.written g.O.Sink.faults c.otherwise-k.result c.args.job.now c.args.run.now c.go.new.run c.args.out.now c.go.new.out turn.Went c.otherwise-k.ensures c.in-Went.ensures.ready c.in-Went.ensures.carries

pub returns-in-Went-clause-left : goal.returns-in-Went-clause-left
returns-in-Went-clause-left g c = unfinished_ready c.args.run.now.machine c.in-Went.ensures.ready

pub returns-in-Stopped-clause-carries : goal.returns-in-Stopped-clause-carries
returns-in-Stopped-clause-carries g c = unchosen_went g.O.Sink.written g.O.Sink.faults c.otherwise-k.result c.args.job.now c.args.run.now c.go.new.run c.args.out.now c.go.new.out turn.Stopped c.otherwise-k.ensures c.in-Stopped.ensures.ready c.in-Stopped.ensures.carries

pub returns-in-Stopped-clause-left : goal.returns-in-Stopped-clause-left
returns-in-Stopped-clause-left g c = unfinished_ready c.args.run.now.machine c.in-Stopped.ensures.ready

pub returns-in-Failed-clause-carries : goal.returns-in-Failed-clause-carries
returns-in-Failed-clause-carries g c = unchosen_went g.O.Sink.written g.O.Sink.faults c.otherwise-k.result c.args.job.now c.args.run.now c.go.new.run c.args.out.now c.go.new.out turn.Failed c.otherwise-k.ensures c.in-Failed.ensures.ready c.in-Failed.ensures.carries

pub returns-in-Failed-clause-left : goal.returns-in-Failed-clause-left
returns-in-Failed-clause-left g c = unfinished_ready c.args.run.now.machine c.in-Failed.ensures.ready
