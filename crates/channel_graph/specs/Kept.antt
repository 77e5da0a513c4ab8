-- Costs of handlers that one more round keeps.
use Rattle.std.specs.Prelude.{ℕ, ◌<◌, ◌≡◌, List, length}
use Rattle.tower_types.specs.Records.{saturated}
use Rattle.tower_syntax.specs.Arch.{Arch}
use Rattle.tower_syntax.specs.Weights.{deliver}
use Rattle.channel_graph.specs.Chain.{IsOnSource}
use Rattle.channel_graph.specs.Ranked.{rank}
use Rattle.channel_graph.specs.Table.{IsTable}

-- of the first n handlers, those with a depth have the same number before and after
pub record AreKept (depths before after : List ℕ) (n : ℕ) : Type 0 where
  pub cut : (k : ℕ) → k < n → rank before k ≡ saturated (rank before k)
  pub same : (k : ℕ) → k < n → 0 < rank depths k → rank before k ≡ rank after k

-- a cost for each handler, and those on sources cost what their deliveries do
pub record AreDeliveries (arch : Arch) (costs : List ℕ) : Type 0 where
  pub of_handler : ℕ → ℕ
  pub table : IsTable (length arch.handlers) of_handler costs
  pub right : (h : ℕ) → IsOnSource arch h → of_handler h ≡ deliver arch h
