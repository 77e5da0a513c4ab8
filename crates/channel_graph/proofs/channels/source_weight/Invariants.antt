use Rattle.std.proofs.Common.{◌≡◌, ℕ, length, take}
use Rattle.tower_types.specs.Records.{saturated}
use Rattle.tower_syntax.specs.declared.arch.On.TheVariants as on
use Rattle.channel_graph.specs.Table.{IsTable, weight_among}
use Rattle.channel_graph.proofs.channels.source_weight.Given as goal

abbrev pub invariant-loop-listener : goal.invariant-loop-listener
invariant-loop-listener l =
    (f : ℕ → ℕ) → IsTable (length l.arch.handlers) f l.costs → l.total ≡ saturated (weight_among l.arch f (take l.listener-index l.listener-items) (on.Source l.s))
