-- How far a search for a walk back to a handler has come.
use Rattle.std.specs.Prelude.{ℕ, ◌+◌, ◌<◌, ◌≤◌, ◌≡◌, List, [], length, find, filter, slice_index_or, slice_set, unwrap_or, None, cond, nat_lt, nat_le, Bool, true, false, ◌&&◌, ◌==◌}
use Rattle.std.specs.List.{list_any}
use Rattle.tower_syntax.specs.declared.arch.On.{On}
use Rattle.tower_syntax.specs.declared.arch.On.TheVariants as on
use Rattle.tower_syntax.specs.Arch.{Arch}
use Rattle.tower_syntax.specs.Graph.{handler, leads, handler_numbers, numbers_before}
use Rattle.channel_graph.specs.Reaching.{is_on, IsMarked}
use Rattle.channel_graph.specs.Circuit.{near, walk_round}

abbrev pub rank : List ℕ → ℕ → ℕ
rank ranks k = slice_index_or ranks k 0

abbrev pub is_near : Arch → ℕ → ℕ → ℕ → Bool
is_near arch h n k = list_any (λ i. i == k) (near arch h n)

-- a handler that is at most n links from h has 1 more than the fewest links to h as its rank, and any other has 0
pub record AreRanked (arch : Arch) (h n : ℕ) (ranks : List ℕ) : Type 0 where
  pub each : length ranks ≡ length arch.handlers
  pub top : (k : ℕ) → rank ranks k ≤ n + 1
  pub near : (k m : ℕ) → m ≤ n → k < length arch.handlers → is_near arch h m k ≡ true → (0 < rank ranks k) × (rank ranks k ≤ m + 1)
  pub ranked : (k m : ℕ) → m ≤ n → k < length arch.handlers → 0 < rank ranks k → rank ranks k ≤ m + 1 → is_near arch h m k ≡ true

-- a handler on the channel that has a rank
pub record Hearer (arch : Arch) (ranks : List ℕ) (n c : ℕ) : Type 0 where
  pub number : ℕ
  pub below : number < n
  pub ranked : 0 < rank ranks number
  pub on : is_on arch (on.Channel c) number ≡ true

-- the marked channels are those that one of the first n handlers is on, if it has a rank
pub record AreLoud (arch : Arch) (ranks : List ℕ) (n : ℕ) (loud : List Bool) : Type 0 where
  pub each : length loud ≡ length arch.channels
  pub heard : (c : ℕ) → IsMarked loud c → Hearer arch ranks n c
  pub all : (c k : ℕ) → c < length arch.channels → k < n → 0 < rank ranks k → is_on arch (on.Channel c) k ≡ true → IsMarked loud c

-- does the handler emit on a marked channel
abbrev pub is_loud : Arch → List Bool → ℕ → Bool
is_loud arch loud k = list_any (λ e. slice_index_or loud e.channel false) (handler arch k).emitters

-- the rank of a handler that has none so far, and emits on a marked channel
abbrev pub ranked_next : Arch → List Bool → ℕ → List ℕ → ℕ → ℕ
ranked_next arch loud n old k = cond (rank old k == 0 && is_loud arch loud k) (n + 2) (rank old k)

-- of the first m handlers, those that emit on a marked channel have a rank now
pub record Widens (arch : Arch) (loud : List Bool) (n m : ℕ) (old new : List ℕ) : Type 0 where
  pub each : length new ≡ length old
  pub before : (k : ℕ) → k < m → rank new k ≡ ranked_next arch loud n old k
  pub after : (k : ℕ) → m ≤ k → rank new k ≡ rank old k

-- the least handler that k leads to and whose rank is from 1 to n + 1
abbrev pub least_ranked : Arch → List ℕ → ℕ → ℕ → ℕ
least_ranked arch ranks n k = unwrap_or (find (λ j. leads arch k j && (nat_lt 0 (rank ranks j) && nat_le (rank ranks j) (n + 1))) (handler_numbers arch)) k

-- of the first n numbers, the marked ones
abbrev pub marked_below : List Bool → ℕ → List ℕ
marked_below marks n = filter (λ k. slice_index_or marks k false) (numbers_before n [])

-- the channel that a handler is on is marked
abbrev pub MarksChannel : List Bool → On → List Bool → Type 0
MarksChannel old (on.Source s) new = new ≡ old
MarksChannel old (on.Channel c) new = new ≡ slice_set old c true

-- of the first n handlers, those that have a walk round are marked
pub record AreLooping (arch : Arch) (n : ℕ) (marks : List Bool) : Type 0 where
  pub each : length marks ≡ n
  pub others : (h : ℕ) → h < n → slice_index_or marks h false ≡ false → walk_round arch h ≡ None
