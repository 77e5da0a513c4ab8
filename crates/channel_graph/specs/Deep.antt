-- How many handlers the walks from a handler have at most, in lists that have 0 where it is not known.
use Rattle.std.specs.Prelude.{ℕ, ◌-◌, ◌<◌, ◌≤◌, ◌≡◌, ◌⊎◌, List, length, map, slice_index_or, true}
use Rattle.tower_syntax.specs.declared.arch.On.TheVariants as on
use Rattle.tower_syntax.specs.Arch.{Arch}
use Rattle.tower_syntax.specs.Graph.{handler, leads}
use Rattle.channel_graph.specs.declared.depths.Known.{Known}
use Rattle.channel_graph.specs.Chain.{IsOnSource}
use Rattle.channel_graph.specs.Lengths.{Starts, HasWalk}
use Rattle.channel_graph.specs.Ranked.{rank}
use Rattle.channel_graph.specs.Reaching.{is_on}

-- n is the greatest number of handlers on a walk that starts at h
pub record IsDepth (arch : Arch) (h n : ℕ) : Type 0 where
  pub starts : Starts arch n h
  pub longest : (m : ℕ) → Starts arch m h → m ≤ n

-- a walk of n handlers starts at a handler on the channel
pub record StartsOn (arch : Arch) (n c : ℕ) : Type 0 where
  pub number : ℕ
  pub below : number < length arch.handlers
  pub on : is_on arch (on.Channel c) number ≡ true
  pub starts : Starts arch n number

-- n is 1 more than the greatest number of handlers on a walk that starts on the channel, 1 where none does
pub record IsDepthOn (arch : Arch) (c n : ℕ) : Type 0 where
  pub longest : (m : ℕ) → StartsOn arch m c → m < n
  pub some : (n ≡ 1) ⊎ StartsOn arch (n - 1) c

-- a handler has its depth or 0, and one with a depth leads only to handlers with one
pub record AreDepths (arch : Arch) (depths : List ℕ) : Type 0 where
  pub each : length depths ≡ length arch.handlers
  pub known : (k : ℕ) → 0 < rank depths k → IsDepth arch k (rank depths k)
  pub closed : (k j : ℕ) → 0 < rank depths k → leads arch k j ≡ true → 0 < rank depths j

-- the numbers of handlers are depths, those of channels are right or 0, and each handler on a channel with a number has a depth
pub record IsKnown (arch : Arch) (q : Known) : Type 0 where
  pub depths : AreDepths arch q.handlers
  pub each : length q.channels ≡ length arch.channels
  pub known : (c : ℕ) → 0 < rank q.channels c → IsDepthOn arch c (rank q.channels c)
  pub heard : (c k : ℕ) → 0 < rank q.channels c → k < length arch.handlers → is_on arch (on.Channel c) k ≡ true → 0 < rank q.handlers k

-- n is the greatest of `floor` and the numbers at the first m of these places, none of which is 0
pub record IsTop (xs : List ℕ) (floor n m : ℕ) (places : List ℕ) : Type 0 where
  pub above : floor ≤ n
  pub each : (j : ℕ) → j < m → (0 < rank xs (slice_index_or places j 0)) × (rank xs (slice_index_or places j 0) ≤ n)
  pub some : (n ≡ floor) ⊎ ((j : ℕ) × (j < m) × (rank xs (slice_index_or places j 0) ≡ n))

-- the channels on which a handler emits
abbrev pub emitted : Arch → ℕ → List ℕ
emitted arch k = map (λ e. e.channel) (handler arch k).emitters

-- those of the first m handlers that are on a source have depths, none above n, and some walk has n handlers
pub record IsDeepest (arch : Arch) (depths : List ℕ) (m n : ℕ) : Type 0 where
  pub walk : HasWalk arch n
  pub all : (h : ℕ) → h < m → IsOnSource arch h → (0 < rank depths h) × (rank depths h ≤ n)
