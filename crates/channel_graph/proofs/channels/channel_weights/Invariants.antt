use Rattle.std.proofs.Common.{◌≡◌, ℕ, length, take}
use Rattle.tower_syntax.specs.declared.arch.On.TheVariants as on
use Rattle.channel_graph.specs.Table.{IsTable, weight_among}
use Rattle.channel_graph.proofs.channels.channel_weights.Given as goal

abbrev pub invariant-loop-listener : goal.invariant-loop-listener
invariant-loop-listener l =
    (length l.totals ≡ length l.arch.channels)
    × ((f : ℕ → ℕ) → IsTable (length l.arch.handlers) f l.costs → IsTable (length l.arch.channels) (λ c. weight_among l.arch f (take l.listener-index l.listener-items) (on.Channel c)) l.totals)
