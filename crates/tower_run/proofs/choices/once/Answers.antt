use Rattle.std.proofs.Common.{sym, ap}
use Rattle.tower_run.specs.Going.{once, going, seeing}
use Rattle.tower_run.proofs.Carried.{carries_part}
use Rattle.tower_run.proofs.choices.once.Goals as goal

pub returns-in-Go-clause-carries : goal.returns-in-Go-clause-carries
returns-in-Go-clause-carries g c =
    carries_part g.O.Sink.written g.O.Sink.faults (going c.in-Go.k) (once c.args.choice) c.args.job.now c.args.run.now c.go.new.run c.args.out.now c.go.new.out c.go.result
    (λ d s first told. ap (λ ch. once ch d s) (sym c.in-Go.is)) c.go.ensures.carries

pub returns-in-See-clause-carries : goal.returns-in-See-clause-carries
returns-in-See-clause-carries g c =
    carries_part g.O.Sink.written g.O.Sink.faults (seeing c.in-See.k) (once c.args.choice) c.args.job.now c.args.run.now c.see.new.run c.args.out.now c.see.new.out c.see.result
    (λ d s first told. ap (λ ch. once ch d s) (sym c.in-See.is)) c.see.ensures
