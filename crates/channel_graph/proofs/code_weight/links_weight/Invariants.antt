use Rattle.std.proofs.Common.{◌≡◌, ℕ, length, take, map, sum}
use Rattle.tower_types.specs.Records.{saturated}
use Rattle.tower_syntax.specs.Arch.{Arch}
use Rattle.tower_syntax.specs.View.{emitter_of}
use Rattle.channel_graph.specs.Table.{IsTable, channel_weight, link_weight}
use Rattle.channel_graph.proofs.code_weight.links_weight.Given as goal

abbrev pub invariant-loop-emitter : goal.invariant-loop-emitter
invariant-loop-emitter l =
    (arch : Arch) (f : ℕ → ℕ) → IsTable (length l.totals) (channel_weight arch f) l.totals → l.total ≡ saturated (sum (map (link_weight arch f) (map emitter_of (take l.emitter-index l.emitters))))
