use Rattle.tower_run.specs.Going.{applying}
use Rattle.tower_run.proofs.Carried.{went_so}
use Rattle.tower_run.proofs.choices.apply_next.Goals as goal

pub returns-in-Passed-clause-carries : goal.returns-in-Passed-clause-carries
returns-in-Passed-clause-carries g c = went_so g.O.Sink.written g.O.Sink.faults (applying c.args.choice) c.args.job.now c.args.run.now c.apply.new.run c.args.out.now c.apply.new.out c.in-Passed.ensures
