use Rattle.std.proofs.Common.{true, false}
use Rattle.tower_run.specs.Going.{choosing}
use Rattle.tower_run.proofs.Ends.{told_can_end, failed_early}
use Rattle.tower_run.proofs.run.carry_out.Goals as goal

pub end-requires : goal.end-requires
end-requires g c =
    let it = c.requires in
    told_can_end g.O.Sink.written g.O.Sink.faults c.args.job.now c.choose.new.run it.course (choosing c.args.choices.now it.course it.planned) false it.first c.choose.new.out it.job (c.in-Went.ensures.on it.course it.planned it.first it.told)

pub end-requires-in-Passed : goal.end-requires-in-Passed
end-requires-in-Passed g c =
    let it = c.requires in
    told_can_end g.O.Sink.written g.O.Sink.faults c.args.job.now c.choose.new.run it.course (choosing c.args.choices.now it.course it.planned) false it.first c.choose.new.out it.job (c.in-Passed.ensures.on it.course it.planned it.first it.told).0

pub end-requires-in-Stopped : goal.end-requires-in-Stopped
end-requires-in-Stopped g c =
    let it = c.requires in
    told_can_end g.O.Sink.written g.O.Sink.faults c.args.job.now c.choose.new.run it.course (choosing c.args.choices.now it.course it.planned) true it.first c.choose.new.out it.job (c.in-Stopped.ensures.on it.course it.planned it.first it.told)

pub returns-in-Went : goal.returns-in-Went
returns-in-Went g c = λ d s first told. c.end.ensures d (choosing c.args.choices.now d s) first (c.in-Went.ensures.on d s first told)

pub returns-in-Passed : goal.returns-in-Passed
returns-in-Passed g c = λ d s first told. c.end-in-Passed.ensures d (choosing c.args.choices.now d s) first (c.in-Passed.ensures.on d s first told).0

pub returns-in-Stopped : goal.returns-in-Stopped
returns-in-Stopped g c = λ d s first told. c.end-in-Stopped.ensures d (choosing c.args.choices.now d s) first (c.in-Stopped.ensures.on d s first told)

pub returns-in-Failed : goal.returns-in-Failed
returns-in-Failed g c = λ d s first told. failed_early g.O.Sink.written g.O.Sink.faults d (choosing c.args.choices.now d s) first c.choose.new.out (c.in-Failed.ensures.on d s first told)
