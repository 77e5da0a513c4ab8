-- Subscribers, by lists of costs and of sums.
use Rattle.std.specs.Prelude.{ℕ, ◌<◌, ◌++◌, List, [], ◌∷◌, length, slice_index_or}
use Rattle.tower_syntax.specs.declared.arch.On.TheVariants as on
use Rattle.tower_syntax.specs.declared.arch.Listener.{Listener}
use Rattle.tower_syntax.specs.declared.arch.Listener.TheVariants as to
use Rattle.tower_syntax.specs.Arch.{Arch}
use Rattle.channel_graph.specs.Table.{IsTable, weight_among}

-- a handler has a place in a list of n
abbrev pub IsListed : ℕ → Listener → Type 0
IsListed n (to.Handler h) = h < n
IsListed n (to.Output o) = Unit {0}

-- what the list says of a handler; an output costs nothing
abbrev pub costs_in : List ℕ → Listener → ℕ
costs_in costs (to.Handler h) = slice_index_or costs h 0
costs_in costs (to.Output o) = 0

-- sums over some subscribers have become sums over one more
abbrev pub Joins : Arch → List ℕ → Listener → List ℕ → List ℕ → Type 0
Joins arch costs l old new =
    (f : ℕ → ℕ) (ls : List Listener) → IsTable (length arch.handlers) f costs
    → IsTable (length arch.channels) (λ c. weight_among arch f ls (on.Channel c)) old
    → IsTable (length arch.channels) (λ c. weight_among arch f (ls ++ l ∷ []) (on.Channel c)) new
