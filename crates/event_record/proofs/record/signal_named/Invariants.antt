use Rattle.std.proofs.Common.{map}
use Rattle.event_record.specs.Record.{names_signal}
use Rattle.tower_syntax.specs.View.{source_of}
use Rattle.event_record.proofs.Positions.{PassedBy}
use Rattle.event_record.proofs.record.signal_named.Given as goal

abbrev pub invariant-loop-x : goal.invariant-loop-x
invariant-loop-x l = PassedBy (names_signal l.name) (map source_of l.sources) l.x
