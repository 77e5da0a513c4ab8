-- Walks from a source, and the longest of them.
use Rattle.std.specs.Prelude.{◌≡◌, ◌<◌, ◌≤◌, ℕ, List, [], ◌∷◌, length, true, Contains}
use Rattle.tower_syntax.specs.declared.arch.On.TheVariants as on
use Rattle.tower_syntax.specs.declared.arch.Listener.TheVariants as to
use Rattle.tower_syntax.specs.Arch.{Arch}
use Rattle.tower_syntax.specs.Graph.{subs, leads}

-- the handler is on a source
pub record IsOnSource (arch : Arch) (h : ℕ) : Type 0 where
  pub source : ℕ
  pub exists : source < length arch.sources
  pub on : Contains (subs arch (on.Source source)) (to.Handler h)

-- h leads to the first of these, and each to the next
abbrev pub LeadsAlong : Arch → ℕ → List ℕ → Type 0
LeadsAlong arch h [] = Unit {0}
LeadsAlong arch h (k ∷ ks) = (leads arch h k ≡ true) × LeadsAlong arch k ks

-- the handlers on a walk from a source: the first is on one, and each leads to the next
abbrev pub IsWalk : Arch → List ℕ → Type 0
IsWalk arch [] = Unit {0}
IsWalk arch (h ∷ hs) = IsOnSource arch h × LeadsAlong arch h hs

-- n is the greatest number of handlers on a walk from a source, 0 where no handler is on one
pub record IsChain (arch : Arch) (n : ℕ) : Type 0 where
  pub walk : List ℕ
  pub is : IsWalk arch walk
  pub long : length walk ≡ n
  pub longest : (hs : List ℕ) → IsWalk arch hs → length hs ≤ n

-- the same among the walks of at most so many handlers
pub record IsChainWithin (arch : Arch) (limit n : ℕ) : Type 0 where
  pub walk : List ℕ
  pub is : IsWalk arch walk
  pub long : length walk ≡ n
  pub within : n ≤ limit
  pub longest : (hs : List ℕ) → IsWalk arch hs → length hs ≤ limit → length hs ≤ n
