-- Numbers that are at least how many messages a handler may emit, and a log by which changes of them are taken back.
use Rattle.std.specs.Prelude.{ℕ, ◌+◌, ◌<◌, ◌≤◌, ◌≡◌, ◌==◌, ◌++◌, max, cond, List, [], ◌∷◌, length, slice_index_or, slice_set, true, false}
use Rattle.tower_types.specs.Records.{saturated}
use Rattle.tower_syntax.specs.Arch.{Handler}
use Rattle.tower_syntax.specs.Weights.{most}
use Rattle.channel_graph.specs.declared.rough.Noted.{Noted}
use Rattle.channel_graph.specs.declared.rough.Counts.{Counts}

-- each number has grown by at least this, or is as great as it can be
pub record GrowsBy (f : ℕ → ℕ) (old new : List ℕ) : Type 0 where
  pub each : length new ≡ length old
  pub least : (e : ℕ) → e < length old → saturated (slice_index_or old e 0 + f e) ≤ slice_index_or new e 0

-- the greatest number that is noted at a place, 0 if there is none
abbrev pub peak_at : List Noted → ℕ → ℕ
peak_at [] e = 0
peak_at (n ∷ ns) e = max (cond (n.place == e) n.total 0) (peak_at ns e)

-- each number has grown if at all, and is no less than its peak
pub record Tops (old : List ℕ) (peaks : List Noted) (new : List ℕ) : Type 0 where
  pub each : length new ≡ length old
  pub own : (e : ℕ) → e < length old → slice_index_or old e 0 ≤ slice_index_or new e 0
  pub peak : (e : ℕ) → e < length old → peak_at peaks e ≤ slice_index_or new e 0

-- at each place the greater of the number and its peak is no less than it was
abbrev pub Covers : List ℕ → List Noted → List ℕ → List Noted → Type 0
Covers old before new after = (e : ℕ) → max (slice_index_or old e 0) (peak_at before e) ≤ max (slice_index_or new e 0) (peak_at after e)

-- a number is put at a place, if there is one, and what stood there behind the log
pub record Changes (place total : ℕ) (old new : Counts) : Type 0 where
  pub totals : new.totals ≡ slice_set old.totals place total
  pub log : new.log ≡ old.log ++ record { place = place; total = slice_index_or old.totals place 0 } ∷ []

-- changes, each of them logged, lead from one to the other
pub data Logs (old : Counts) : Counts → Type 0 where
  same : Logs old old
  more : (mid new : Counts) (place total : ℕ) → Logs old mid → Changes place total mid new → Logs old new

-- 1 at emitter k, and 0 at the others
abbrev pub one_of : ℕ → ℕ → ℕ
one_of k e = elim (k == e) [ true ↦ 1 | false ↦ 0 ]

-- a number for each emitter, and no message puts more on it, unless the number is as great as it can be
pub record IsRough (h : Handler) (totals : List ℕ) : Type 0 where
  pub each : length totals ≡ length h.emitters
  pub least : (e : ℕ) → e < length h.emitters → saturated (most h e) ≤ slice_index_or totals e 0
