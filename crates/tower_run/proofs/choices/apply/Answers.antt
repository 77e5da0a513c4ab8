use Rattle.std.proofs.Common.{sym, ap, ◌∙◌}
use Rattle.tower_syntax.specs.declared.event.Choice.TheVariants as choice
use Rattle.tower_run.specs.Going.{repeating, applying, idling}
use Rattle.tower_run.proofs.Carried.{carries_part, go_is, see_is, ev_is}
use Rattle.tower_run.proofs.choices.apply.Goals as goal

pub returns-in-Go : goal.returns-in-Go
returns-in-Go g c =
    carries_part g.O.Sink.written g.O.Sink.faults (repeating c.in-Go.times (choice.Go c.in-Go.field-0 c.in-Go.times)) (applying c.args.choice) c.args.job.now c.args.run.now c.repeat.new.run c.args.out.now c.repeat.new.out c.repeat.result
    (λ d s first told. go_is g.O.Sink.written g.O.Sink.faults c.in-Go.field-0 c.in-Go.times d s ∙ ap (λ ch. applying ch d s) (sym c.in-Go.is)) c.repeat.ensures

pub returns-in-See : goal.returns-in-See
returns-in-See g c =
    carries_part g.O.Sink.written g.O.Sink.faults (repeating c.in-See.times (choice.See c.in-See.field-0 c.in-See.times)) (applying c.args.choice) c.args.job.now c.args.run.now c.repeat-in-See.new.run c.args.out.now c.repeat-in-See.new.out c.repeat-in-See.result
    (λ d s first told. see_is g.O.Sink.written g.O.Sink.faults c.in-See.field-0 c.in-See.times d s ∙ ap (λ ch. applying ch d s) (sym c.in-See.is)) c.repeat-in-See.ensures

pub returns-in-Ev : goal.returns-in-Ev
returns-in-Ev g c =
    carries_part g.O.Sink.written g.O.Sink.faults (repeating c.in-Ev.times (choice.Ev c.in-Ev.times)) (applying c.args.choice) c.args.job.now c.args.run.now c.repeat-in-Ev.new.run c.args.out.now c.repeat-in-Ev.new.out c.repeat-in-Ev.result
    (λ d s first told. ev_is g.O.Sink.written g.O.Sink.faults c.in-Ev.times d s ∙ ap (λ ch. applying ch d s) (sym c.in-Ev.is)) c.repeat-in-Ev.ensures

pub returns-in-Idle : goal.returns-in-Idle
returns-in-Idle g c =
    carries_part g.O.Sink.written g.O.Sink.faults idling (applying c.args.choice) c.args.job.now c.args.run.now c.idle.new.run c.args.out.now c.idle.new.out c.idle.result
    (λ d s first told. ap (λ ch. applying ch d s) (sym c.in-Idle.is)) c.idle.ensures
