-- How far a search for the longest walk has come: it marks, by a number above 0, the handlers at which a walk of n handlers starts.
use Rattle.std.specs.Prelude.{ℕ, ◌+◌, ◌<◌, ◌≡◌, List, length, true}
use Rattle.tower_syntax.specs.Arch.{Arch}
use Rattle.tower_syntax.specs.Graph.{leads}
use Rattle.channel_graph.specs.Ranked.{rank}
use Rattle.channel_graph.specs.Chain.{LeadsAlong, IsOnSource, IsWalk}

-- a walk of n handlers starts at h
pub record Starts (arch : Arch) (n h : ℕ) : Type 0 where
  pub rest : List ℕ
  pub along : LeadsAlong arch h rest
  pub long : length rest + 1 ≡ n

-- a handler with a mark that k leads to
pub record LeadsToMark (arch : Arch) (ranks : List ℕ) (k : ℕ) : Type 0 where
  pub next : ℕ
  pub link : leads arch k next ≡ true
  pub marked : 0 < rank ranks next

-- of the first m handlers, those are marked now that lead to a marked one
pub record AreBefore (arch : Arch) (old : List ℕ) (m : ℕ) (new : List ℕ) : Type 0 where
  pub each : length new ≡ m
  pub sound : (k : ℕ) → 0 < rank new k → LeadsToMark arch old k
  pub all : (k : ℕ) → k < m → LeadsToMark arch old k → 0 < rank new k

-- the marked handlers are those at which a walk of n handlers starts
pub record AreStarts (arch : Arch) (n : ℕ) (ranks : List ℕ) : Type 0 where
  pub each : length ranks ≡ length arch.handlers
  pub sound : (k : ℕ) → 0 < rank ranks k → Starts arch n k
  pub all : (k : ℕ) → k < length arch.handlers → Starts arch n k → 0 < rank ranks k

-- the handler is on a source, and marked
pub record IsStart (arch : Arch) (ranks : List ℕ) (h : ℕ) : Type 0 where
  pub on : IsOnSource arch h
  pub marked : 0 < rank ranks h

-- a handler on a source is marked
pub record IsOnMark (arch : Arch) (ranks : List ℕ) : Type 0 where
  pub handler : ℕ
  pub start : IsStart arch ranks handler

-- some walk has n handlers
pub record HasWalk (arch : Arch) (n : ℕ) : Type 0 where
  pub walk : List ℕ
  pub is : IsWalk arch walk
  pub long : length walk ≡ n
