use Rattle.std.proofs.Common.{◌≡◌, take}
use Rattle.tower_types.specs.Ty.{table_of}
use Rattle.tower_types.specs.View.{fields_of}
use Rattle.tower_types.specs.Records.{saturated}
use Rattle.arch_checks.specs.Sizes.{types_of_fields}
use Rattle.arch_checks.specs.Measured.{greatest_of}
use Rattle.arch_checks.proofs.widths.fields_width.Given as goal

abbrev pub invariant-loop-ty : goal.invariant-loop-ty
invariant-loop-ty l = l.most ≡ saturated (greatest_of l.measure (table_of l.arch.records) (types_of_fields (fields_of (take l.ty-index l.fields))))
