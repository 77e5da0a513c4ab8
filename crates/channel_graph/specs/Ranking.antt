-- Ranks that are looked over once: how many links lead from each handler to one of them.
use Rattle.std.specs.Prelude.{ℕ, ◌+◌, ◌<◌, ◌≤◌, ◌≡◌, ◌⊎◌, List, length, slice_index_or, slice_set, true}
use Rattle.tower_syntax.specs.declared.arch.On.{On}
use Rattle.tower_syntax.specs.declared.arch.On.TheVariants as on
use Rattle.tower_syntax.specs.Arch.{Arch}
use Rattle.tower_syntax.specs.Graph.{leads}
use Rattle.channel_graph.specs.declared.ranking.Nearest.{Nearest}
use Rattle.channel_graph.specs.Reaching.{is_on}
use Rattle.channel_graph.specs.Ranked.{rank}

abbrev pub no_nearest : Nearest
no_nearest = record { rank = 0; handler = 0 }

-- that of a channel
abbrev pub nearest_at : List Nearest → ℕ → Nearest
nearest_at table c = slice_index_or table c no_nearest

-- a handler with its rank
abbrev pub ranked_at : List ℕ → ℕ → Nearest
ranked_at ranks k = record { rank = rank ranks k; handler = k }

-- where y has a rank, x has no greater one, and is no greater handler where the ranks are the same
abbrev pub IsNoFarther : Nearest → Nearest → Type 0
IsNoFarther x y = 0 < y.rank → (0 < x.rank) × (x.rank ≤ y.rank) × (x.rank ≡ y.rank → x.handler ≤ y.handler)

-- x is the nearer of two
pub record IsNearer (a b x : Nearest) : Type 0 where
  pub one : (x ≡ a) ⊎ (x ≡ b)
  pub first : IsNoFarther x a
  pub second : IsNoFarther x b

-- of a channel, the nearer of what it had and of a handler on it
pub record AddsAt (old : List Nearest) (c : ℕ) (x : Nearest) (new : List Nearest) : Type 0 where
  pub nearer : Nearest
  pub which : IsNearer (nearest_at old c) x nearer
  pub written : new ≡ slice_set old c nearer

abbrev pub AddsNearest : List Nearest → On → Nearest → List Nearest → Type 0
AddsNearest old (on.Source s) x new = new ≡ old
AddsNearest old (on.Channel c) x new = AddsAt old c x new

-- it is one of the first n handlers, is on the channel, and has this rank
pub record IsOnChannel (arch : Arch) (ranks : List ℕ) (n c : ℕ) (x : Nearest) : Type 0 where
  pub below : x.handler < n
  pub on : is_on arch (on.Channel c) x.handler ≡ true
  pub ranked : rank ranks x.handler ≡ x.rank

-- for each channel, the nearest of those of the first n handlers that are on it
pub record AreNearest (arch : Arch) (ranks : List ℕ) (n : ℕ) (table : List Nearest) : Type 0 where
  pub each : length table ≡ length arch.channels
  pub found : (c : ℕ) → 0 < (nearest_at table c).rank → IsOnChannel arch ranks n c (nearest_at table c)
  pub least : (c k : ℕ) → c < length arch.channels → k < n → is_on arch (on.Channel c) k ≡ true → IsNoFarther (nearest_at table c) (ranked_at ranks k)

-- the nearest of the handlers that k leads to
pub record IsAhead (arch : Arch) (ranks : List ℕ) (k : ℕ) (x : Nearest) : Type 0 where
  pub link : 0 < x.rank → leads arch k x.handler ≡ true
  pub ranked : 0 < x.rank → rank ranks x.handler ≡ x.rank
  pub least : (j : ℕ) → leads arch k j ≡ true → IsNoFarther x (ranked_at ranks j)

-- a handler that k leads to, whose rank is one less
pub record LeadsNearer (arch : Arch) (ranks : List ℕ) (k : ℕ) : Type 0 where
  pub next : ℕ
  pub link : leads arch k next ≡ true
  pub less : rank ranks k ≡ rank ranks next + 1

-- the rank of k is 1 at h alone, and otherwise one more than the least of those that it leads to, if one of them has any
pub record IsRanked (arch : Arch) (h : ℕ) (ranks : List ℕ) (k : ℕ) : Type 0 where
  pub few : rank ranks k ≤ length arch.handlers
  pub own : k ≡ h → rank ranks k ≡ 1
  pub only : rank ranks k ≡ 1 → k ≡ h
  pub nearer : 1 < rank ranks k → LeadsNearer arch ranks k
  pub links : (j : ℕ) → leads arch k j ≡ true → 0 < rank ranks j → (0 < rank ranks k) × (rank ranks k ≤ rank ranks j + 1)

-- the ranks of the first n handlers are right
abbrev pub IsRanking : Arch → ℕ → List ℕ → ℕ → Type 0
IsRanking arch h ranks n = (k : ℕ) → k < n → IsRanked arch h ranks k
