use Rattle.std.proofs.Common.{◌≡◌, map, take}
use Rattle.tower_types.specs.Ty.{table_of}
use Rattle.tower_types.specs.Records.{saturated}
use Rattle.arch_checks.specs.Sizes.{greatest}
use Rattle.arch_checks.specs.Measured.{measured}
use Rattle.arch_checks.proofs.widths.records_width.Given as goal

abbrev pub invariant-loop-r : goal.invariant-loop-r
invariant-loop-r l = l.most ≡ saturated (greatest (map (measured l.measure) (take l.r (table_of l.arch.records))))
