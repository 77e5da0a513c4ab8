use Rattle.std.proofs.Common.{◌≡◌, map, take}
use Rattle.tower_types.specs.Ty.{table_of}
use Rattle.tower_types.specs.Records.{saturated}
use Rattle.tower_syntax.specs.View.{source_of}
use Rattle.arch_checks.specs.Measured.{greatest_of}
use Rattle.arch_checks.proofs.widths.sources_width.Given as goal

abbrev pub invariant-loop-source : goal.invariant-loop-source
invariant-loop-source l = l.most ≡ saturated (greatest_of l.measure (table_of l.arch.records) (map (λ x. x.message) (map source_of (take l.source-index l.source-items))))
