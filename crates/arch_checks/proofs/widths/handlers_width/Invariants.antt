use Rattle.std.proofs.Common.{◌≡◌, map, take}
use Rattle.tower_types.specs.Ty.{table_of}
use Rattle.tower_types.specs.Records.{saturated}
use Rattle.tower_syntax.specs.View.{handler_of}
use Rattle.arch_types.specs.Outline.{each}
use Rattle.arch_checks.specs.Sizes.{bound_types}
use Rattle.arch_checks.specs.Measured.{greatest_of}
use Rattle.arch_checks.proofs.widths.handlers_width.Given as goal

abbrev pub invariant-loop-handler : goal.invariant-loop-handler
invariant-loop-handler l = l.most ≡ saturated (greatest_of l.measure (table_of l.arch.records) (each bound_types (map handler_of (take l.handler-index l.handler-items))))
