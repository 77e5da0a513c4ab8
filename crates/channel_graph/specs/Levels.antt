-- Levels in a list that has those of the handlers, then those of the channels.
use Rattle.std.specs.Prelude.{ℕ, ◌+◌, ◌<◌, ◌≤◌, List, [], ◌∷◌, length, slice_index_or}
use Rattle.tower_syntax.specs.declared.arch.On.{On}
use Rattle.tower_syntax.specs.declared.arch.On.TheVariants as on
use Rattle.tower_syntax.specs.Arch.{Arch, Emitter}
use Rattle.tower_syntax.specs.Graph.{handler}
use Rattle.channel_graph.specs.Ranked.{rank}

abbrev pub channel_level : Arch → List ℕ → ℕ → ℕ
channel_level arch levels c = slice_index_or levels (length arch.handlers + c) 0

-- the channel of each of these emitters has at least level n
abbrev pub AreFrom : Arch → List ℕ → ℕ → List Emitter → Type 0
AreFrom arch levels n [] = Unit {0}
AreFrom arch levels n (e ∷ es) = (n ≤ channel_level arch levels e.channel) × AreFrom arch levels n es

-- the channel has at most level n
abbrev pub IsFromOn : Arch → List ℕ → ℕ → On → Type 0
IsFromOn arch levels n (on.Source s) = Unit {0}
IsFromOn arch levels n (on.Channel c) = channel_level arch levels c ≤ n

-- of the first m handlers, each has no lower level than its channel, and no higher one than those of its emitters
pub record Ascends (arch : Arch) (levels : List ℕ) (m : ℕ) : Type 0 where
  pub on : (k : ℕ) → k < m → IsFromOn arch levels (rank levels k) (handler arch k).on
  pub emitters : (k : ℕ) → k < m → AreFrom arch levels (rank levels k) (handler arch k).emitters
