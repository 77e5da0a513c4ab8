use Rattle.std.proofs.Common.{◌≡◌, map, take}
use Rattle.tower_types.specs.Ty.{table_of}
use Rattle.tower_types.specs.Records.{saturated}
use Rattle.tower_syntax.specs.View.{channel_of}
use Rattle.arch_checks.specs.Measured.{greatest_of}
use Rattle.arch_checks.proofs.widths.channels_width.Given as goal

abbrev pub invariant-loop-channel : goal.invariant-loop-channel
invariant-loop-channel l = l.most ≡ saturated (greatest_of l.measure (table_of l.arch.records) (map (λ x. x.message) (map channel_of (take l.channel-index l.channel-items))))
