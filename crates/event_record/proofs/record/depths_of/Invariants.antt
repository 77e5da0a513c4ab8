use Rattle.std.proofs.Common.{◌≡◌, map, take}
use Rattle.tower_syntax.specs.View.{source_of}
use Rattle.event_record.proofs.record.depths_of.Given as goal

abbrev pub invariant-loop-source : goal.invariant-loop-source
invariant-loop-source l = l.depths ≡ map (λ s. s.depth) (map source_of (take l.source-index l.sources))
