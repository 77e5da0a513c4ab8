use Rattle.std.proofs.Common.{map}
use Rattle.std.specs.Prelude.{bytes_eq}
use Rattle.tower_syntax.specs.View.{source_of}
use Rattle.event_record.proofs.Positions.{PassedBy}
use Rattle.event_record.proofs.order.source_named.Given as goal

abbrev pub invariant-loop-x : goal.invariant-loop-x
invariant-loop-x l = PassedBy (λ s. bytes_eq s.name l.name) (map source_of l.sources) l.x
