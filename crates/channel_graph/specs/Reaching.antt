-- What a source reaches, or a handler leads to, and how far a search for it has come.
use Rattle.std.specs.Prelude.{ℕ, ◌<◌, ◌≤◌, ◌≡◌, ◌++◌, List, [], ◌∷◌, length, filter, slice_index_or, slice_set, count_by, Bool, true, false, Contains, MatchBool}
use Rattle.tower_syntax.specs.declared.arch.On.{On}
use Rattle.tower_syntax.specs.declared.arch.On.TheVariants as on
use Rattle.tower_syntax.specs.Arch.{Arch, Emitter}
use Rattle.tower_syntax.specs.Graph.{handler, same_on, leads, numbers_before}
use Rattle.channel_graph.specs.declared.reach.Start.{Start}
use Rattle.channel_graph.specs.declared.reach.Start.TheVariants as start
use Rattle.channel_graph.specs.declared.reach.Reach.{Reach}

-- is the handler on this source or channel
abbrev pub is_on : Arch → On → ℕ → Bool
is_on arch c k = same_on (handler arch k).on c

-- the handlers on a source or channel among the first n, ascending
abbrev pub first_on : Arch → On → ℕ → List ℕ
first_on arch c n = filter (is_on arch c) (numbers_before n [])

-- for each channel, the handlers on it among the first n
pub record AreAudiences (arch : Arch) (n : ℕ) (heard : List (List ℕ)) : Type 0 where
  pub each : length heard ≡ length arch.channels
  pub has : (c : ℕ) → c < length arch.channels → slice_index_or heard c [] ≡ first_on arch (on.Channel c) n

-- the channel is one of the first n
abbrev pub IsWithin : ℕ → On → Type 0
IsWithin n (on.Source s) = Unit {0}
IsWithin n (on.Channel c) = c < n

-- a handler is added to those of the channel that it is on
abbrev pub HearsMore : List (List ℕ) → On → ℕ → List (List ℕ) → Type 0
HearsMore old (on.Source s) k new = new ≡ old
HearsMore old (on.Channel c) k new = new ≡ slice_set old c (slice_index_or old c [] ++ k ∷ [])

-- there is such a handler
abbrev pub IsThere : Arch → Start → Type 0
IsThere arch (start.Source s) = Unit {0}
IsThere arch (start.Handler h) = h < length arch.handlers

-- the handlers on a source, or those that a handler leads to
abbrev pub Begins : Arch → Start → ℕ → Type 0
Begins arch (start.Source s) k = (k < length arch.handlers) × (is_on arch (on.Source s) k ≡ true)
Begins arch (start.Handler h) k = leads arch h k ≡ true

-- a list of links goes from one of these to k
pub data Follows (arch : Arch) (from : Start) : ℕ → Type 0 where
  begins : (k : ℕ) → Begins arch from k → Follows arch from k
  goes : (h k : ℕ) → Follows arch from h → leads arch h k ≡ true → Follows arch from k

abbrev pub IsMarked : List Bool → ℕ → Type 0
IsMarked marks k = slice_index_or marks k false ≡ true

-- the marks are those of the handlers that follow
pub record AreReached (arch : Arch) (from : Start) (marks : List Bool) : Type 0 where
  pub each : length marks ≡ length arch.handlers
  pub marked : (k : ℕ) → IsMarked marks k → Follows arch from k
  pub follows : (k : ℕ) → Follows arch from k → IsMarked marks k

-- what a search keeps: it marks only what follows, its order has each marked handler once, and the handlers on a marked channel are marked
pub record IsReach (arch : Arch) (r : Reach) : Type 0 where
  pub handlers : length r.handlers ≡ length arch.handlers
  pub channels : length r.channels ≡ length arch.channels
  pub sound : (k : ℕ) → IsMarked r.handlers k → Follows arch r.from k
  pub ordered : (k : ℕ) → IsMarked r.handlers k → Contains r.order k
  pub within : (j : ℕ) → j < length r.order → IsMarked r.handlers (slice_index_or r.order j 0)
  pub count : count_by (λ b. b) r.handlers ≡ length r.order
  pub heard : (c k : ℕ) → IsMarked r.channels c → k < length arch.handlers → is_on arch (on.Channel c) k ≡ true → IsMarked r.handlers k

-- a search that has come further: no mark is gone, and the order has only grown
pub record Later (old new : Reach) : Type 0 where
  pub from : new.from ≡ old.from
  pub handlers : (k : ℕ) → IsMarked old.handlers k → IsMarked new.handlers k
  pub channels : (c : ℕ) → IsMarked old.channels c → IsMarked new.channels c
  pub longer : length old.order ≤ length new.order
  pub order : (j : ℕ) → j < length old.order → slice_index_or new.order j 0 ≡ slice_index_or old.order j 0

-- the handler has just been marked, and put behind the order
pub record Marks (old new : Reach) (k : ℕ) : Type 0 where
  pub from : new.from ≡ old.from
  pub channels : new.channels ≡ old.channels
  pub handlers : new.handlers ≡ slice_set old.handlers k true
  pub order : new.order ≡ old.order ++ k ∷ []

-- the handler is marked now, where it was not
abbrev pub Visits : Reach → Reach → ℕ → Type 0
Visits old new k = MatchBool (slice_index_or old.handlers k false) (new ≡ old) (Marks old new k)

-- a search that is as it should be, after an older one
pub record Goes (arch : Arch) (old new : Reach) : Type 0 where
  pub reach : IsReach arch new
  pub later : Later old new

-- each channel of these emitters is marked
abbrev pub AreOpen : List Bool → List Emitter → Type 0
AreOpen marks [] = Unit {0}
AreOpen marks (e ∷ es) = IsMarked marks e.channel × AreOpen marks es

-- so many handlers of the order have no link that is not followed
abbrev pub AreDone : Arch → Reach → ℕ → Type 0
AreDone arch r n = (j : ℕ) → j < n → AreOpen r.channels (handler arch (slice_index_or r.order j 0)).emitters
