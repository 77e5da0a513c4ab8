-- The subscribers of all channels.
use Rattle.std.specs.Prelude.{◌≡◌, ℕ, ◌<◌, ◌++◌, List, [], ◌∷◌, filter, length, slice_index_or, slice_set}
use Rattle.tower_syntax.specs.declared.arch.On.{On}
use Rattle.tower_syntax.specs.declared.arch.On.TheVariants as on
use Rattle.tower_syntax.specs.declared.arch.Listener.{Listener}
use Rattle.tower_syntax.specs.Arch.{Arch}
use Rattle.tower_syntax.specs.Graph.{hears}

-- for each channel, those of these listeners that name it, in their order
pub record AreHeardAmong (arch : Arch) (ls : List Listener) (heard : List (List Listener)) : Type 0 where
  pub each : length heard ≡ length arch.channels
  pub has : (c : ℕ) → c < length arch.channels → slice_index_or heard c [] ≡ filter (hears arch (on.Channel c)) ls

-- for each channel, its subscribers in file order
abbrev pub AreHeard : Arch → List (List Listener) → Type 0
AreHeard arch heard = AreHeardAmong arch arch.listeners heard

-- the channel is one of the first n
abbrev pub IsWithin : ℕ → On → Type 0
IsWithin n (on.Source s) = Unit {0}
IsWithin n (on.Channel c) = c < n

-- a listener is added to those of the channel that it is on
abbrev pub HearsMore : List (List Listener) → On → Listener → List (List Listener) → Type 0
HearsMore old (on.Source s) l new = new ≡ old
HearsMore old (on.Channel c) l new = new ≡ slice_set old c (slice_index_or old c [] ++ l ∷ [])
