use Rattle.std.proofs.Common.{sym}
use Rattle.event_record.specs.Runs.{is_of}
use Rattle.event_record.proofs.Runs.{run_stops, run_goes, run_ends}
use Rattle.event_record.proofs.run.run_len.Goals as goal

pub returns-then-not-is_of-clause-len : goal.returns-then-not-is_of-clause-len
returns-then-not-is_of-clause-len c = run_stops (is_of c.args.sort) c.args.text.now c.loop-i.i c.loop-i-test.true (sym c.if-not-is_of.ensures) c.loop-i.invariant

pub loop-i-preserved : goal.loop-i-preserved
loop-i-preserved c = run_goes (is_of c.args.sort) c.args.text.now c.loop-i.i c.loop-i-test.true (sym c.if-not-is_of.ensures) c.loop-i.invariant

pub returns-clause-len : goal.returns-clause-len
returns-clause-len c = run_ends (is_of c.args.sort) c.args.text.now c.loop-i.i c.loop-i-test.false c.loop-i.invariant
