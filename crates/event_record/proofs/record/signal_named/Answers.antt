use Rattle.std.proofs.Common.{◌≡◌, sym}
use Rattle.tower_syntax.specs.View.{source_of}
use Rattle.event_record.specs.Record.{names_signal}
use Rattle.event_record.proofs.Positions.{seen_here, seen_more, seen_none}
use Rattle.event_record.proofs.record.signal_named.Goals as goal

pub returns-then-is_signal_named-clause-number : goal.returns-then-is_signal_named-clause-number
returns-then-is_signal_named-clause-number c =
    seen_here source_of (names_signal c.args.name.now) c.args.sources.now c.loop-x.x c.index-sources-x.result c.loop-x-test.true c.index-sources-x.is (sym c.if-is_signal_named.ensures) c.loop-x.invariant

pub loop-x-preserved : goal.loop-x-preserved
loop-x-preserved c =
    seen_more source_of (names_signal c.args.name.now) c.args.sources.now c.loop-x.x c.index-sources-x.result c.loop-x-test.true c.index-sources-x.is (sym c.if-is_signal_named.ensures) c.loop-x.invariant

pub returns-clause-number : goal.returns-clause-number
returns-clause-number c = seen_none source_of (names_signal c.args.name.now) c.args.sources.now c.loop-x.x c.loop-x-test.false c.loop-x.invariant
