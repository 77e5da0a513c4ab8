use Rattle.std.proofs.Common.{◌≡◌, sym, ap, ◌∙◌, subst, slice_get}
use Rattle.task_machine.specs.State.{ready}
use Rattle.tower_run.specs.declared.going.Turn.{Turn}
use Rattle.tower_run.specs.declared.going.Turn.TheVariants as turn
use Rattle.tower_run.specs.Going.{going, NeverPasses}
use Rattle.tower_run.proofs.Carried.{after_went, see_exits, see_passes, see_is_over, see_continues, left_is, stopped_not_went, stopped_not_passed, failed_not_went, failed_not_passed}
use Rattle.tower_run.proofs.turns.see.Goals as goal

not_passed : (t : Turn) → NeverPasses t → t ≡ turn.Passed → ⊥
not_passed t h e = subst NeverPasses e h

pub returns-in-Passed : goal.returns-in-Passed
returns-in-Passed g c = see_passes g.O.Sink.written g.O.Sink.faults c.args.k c.args.job.now c.args.run.now c.go.new.run c.args.out.now c.go.new.out c.in-Passed.ensures.carries

pub returns-in-Stopped : goal.returns-in-Stopped
returns-in-Stopped g c = see_exits g.O.Sink.written g.O.Sink.faults c.args.k c.args.job.now c.args.run.now c.go.new.run c.args.out.now c.go.new.out turn.Stopped stopped_not_went stopped_not_passed c.in-Stopped.ensures.carries

pub returns-in-Failed : goal.returns-in-Failed
returns-in-Failed g c = see_exits g.O.Sink.written g.O.Sink.faults c.args.k c.args.job.now c.args.run.now c.go.new.run c.args.out.now c.go.new.out turn.Failed failed_not_went failed_not_passed c.in-Failed.ensures.carries

pub look-requires-clause-going : goal.look-requires-clause-going
look-requires-clause-going g c = after_went g.O.Sink.written g.O.Sink.faults (going c.args.k) c.args.job.now c.args.run.now c.go.new.run c.args.out.now c.go.new.out c.requires c.in-Went.ensures.carries

pub look-requires-clause-ready : goal.look-requires-clause-ready
look-requires-clause-ready g c =
    let s = c.in-Went.ensures.stepped in
    let two = left_is g.O.Sink.written g.O.Sink.faults s.0 c.in-Some.x c.args.run.now c.go.new.run s.2 (sym c.in-Some.ensures) in
    ap (λ y. slice_get (ready c.go.new.run.machine) y) (sym two.0) ∙ two.1

pub returns-in-Some : goal.returns-in-Some
returns-in-Some g c =
    let s = c.in-Went.ensures.stepped in
    see_continues g.O.Sink.written g.O.Sink.faults c.args.k s.0 c.args.job.now c.args.run.now c.go.new.run c.args.out.now c.go.new.out s.1 c.in-Went.ensures.carries s.2
    c.in-Some.x (sym c.in-Some.ensures) c.look.new.run c.look.new.out c.look.result (not_passed c.look.result c.look.ensures.never_passes) c.look.ensures.carries

pub returns-in-None : goal.returns-in-None
returns-in-None g c =
    let s = c.in-Went.ensures.stepped in
    see_is_over g.O.Sink.written g.O.Sink.faults c.args.k s.0 c.args.job.now c.args.run.now c.go.new.run c.args.out.now c.go.new.out s.1 c.in-Went.ensures.carries s.2 (sym c.in-None.ensures)
