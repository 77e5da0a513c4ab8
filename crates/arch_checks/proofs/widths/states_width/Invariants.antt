use Rattle.std.proofs.Common.{◌≡◌, map, take}
use Rattle.tower_types.specs.Ty.{table_of}
use Rattle.tower_types.specs.Records.{saturated}
use Rattle.tower_syntax.specs.View.{monitor_of}
use Rattle.arch_types.specs.Outline.{each}
use Rattle.arch_checks.specs.Sizes.{types_of_fields}
use Rattle.arch_checks.specs.Measured.{greatest_of}
use Rattle.arch_checks.proofs.widths.states_width.Given as goal

abbrev pub invariant-loop-monitor : goal.invariant-loop-monitor
invariant-loop-monitor l = l.most ≡ saturated (greatest_of l.measure (table_of l.arch.records) (each (λ m. types_of_fields m.states) (map monitor_of (take l.monitor-index l.monitor-items))))
