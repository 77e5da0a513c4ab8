-- Handlers, channels and sources that are known to lead into no cycle.
use Rattle.std.specs.Prelude.{ℕ, ◌<◌, ◌≡◌, List, length, slice_set, Bool, true, false}
use Rattle.tower_syntax.specs.declared.arch.On.{On}
use Rattle.tower_syntax.specs.declared.arch.On.TheVariants as on
use Rattle.tower_syntax.specs.Arch.{Arch}
use Rattle.tower_syntax.specs.Graph.{leads, Reaches}
use Rattle.channel_graph.specs.declared.settled.Quiet.{Quiet}
use Rattle.channel_graph.specs.Reaching.{is_on, IsMarked}
use Rattle.channel_graph.specs.Circuit.{LeadsBack}

-- a marked handler leads to marked ones only, and never back to itself
pub record IsSettled (arch : Arch) (done : List Bool) : Type 0 where
  pub each : length done ≡ length arch.handlers
  pub closed : (k j : ℕ) → IsMarked done k → leads arch k j ≡ true → IsMarked done j
  pub clean : (k : ℕ) → IsMarked done k → LeadsBack arch k → ⊥

-- the marked handlers are settled, and so are all handlers on a marked channel
pub record IsQuiet (arch : Arch) (q : Quiet) : Type 0 where
  pub settled : IsSettled arch q.handlers
  pub channels : length q.channels ≡ length arch.channels
  pub heard : (c k : ℕ) → IsMarked q.channels c → k < length arch.handlers → is_on arch (on.Channel c) k ≡ true → IsMarked q.handlers k

-- the source is one of the first n
abbrev pub IsSourceWithin : ℕ → On → Type 0
IsSourceWithin n (on.Source s) = s < n
IsSourceWithin n (on.Channel c) = Unit {0}

-- the source is marked no longer
abbrev pub Blots : List Bool → On → List Bool → Type 0
Blots old (on.Source s) new = new ≡ slice_set old s false
Blots old (on.Channel c) new = new ≡ old

-- of the first n handlers, those on a marked source are settled
pub record AreSpared (arch : Arch) (done : List Bool) (n : ℕ) (clear : List Bool) : Type 0 where
  pub each : length clear ≡ length arch.sources
  pub settled : (s k : ℕ) → IsMarked clear s → k < n → is_on arch (on.Source s) k ≡ true → IsMarked done k

-- a marked source reaches no handler that leads back to itself
pub record AreClear (arch : Arch) (clear : List Bool) : Type 0 where
  pub each : length clear ≡ length arch.sources
  pub free : (s h : ℕ) → IsMarked clear s → Reaches arch s h → LeadsBack arch h → ⊥
