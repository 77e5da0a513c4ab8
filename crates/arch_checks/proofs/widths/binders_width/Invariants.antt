use Rattle.std.proofs.Common.{◌≡◌, map, take}
use Rattle.tower_types.specs.Ty.{table_of}
use Rattle.tower_types.specs.Records.{saturated}
use Rattle.tower_syntax.specs.View.{body_of}
use Rattle.arch_types.specs.Outline.{each}
use Rattle.arch_checks.specs.Sizes.{types_of_fields}
use Rattle.arch_checks.specs.Measured.{greatest_of}
use Rattle.arch_checks.proofs.widths.binders_width.Given as goal

abbrev pub invariant-loop-body : goal.invariant-loop-body
invariant-loop-body l = l.most ≡ saturated (greatest_of l.measure (table_of l.arch.records) (each (λ b. types_of_fields b.binders) (map body_of (take l.body-index l.bodies))))
