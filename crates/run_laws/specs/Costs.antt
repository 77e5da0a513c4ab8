-- What the messages of a run cost.
use Rattle.std.specs.Prelude.{ℕ, ◌+◌, List, [], ◌∷◌, ◌++◌, map, cond}
use Rattle.std.specs.List.{sum_by}
use Rattle.tower_syntax.specs.declared.arch.SourceKind.{SourceKind}
use Rattle.tower_syntax.specs.Arch.{Arch, Entry, Events}
use Rattle.tower_syntax.specs.Arrival.{is_init, ticks, brought}
use Rattle.tower_syntax.specs.Weights.{cost}

-- the init sources, numbered from x on
abbrev pub inits_from : ℕ → List SourceKind → List ℕ
inits_from x [] = []
inits_from x (k ∷ ks) = cond (is_init k) (x ∷ []) [] ++ inits_from (x + 1) ks

-- the source of each message that the entries bring, where k ticks came before
abbrev pub brought_after : List SourceKind → ℕ → List Entry → List ℕ
brought_after kinds k [] = []
brought_after kinds k (e ∷ es) =
    let n = k + ticks (e ∷ []) in
    map (λ b. b.0) (brought kinds n e) ++ brought_after kinds n es

-- the source of each message of a run: each init source has one at the start, and the record brings the others
abbrev pub messages : Events → List ℕ
messages events = inits_from 0 events.kinds ++ brought_after events.kinds 0 events.entries

-- the costs of them all
abbrev pub costs : Arch → Events → ℕ
costs arch events = sum_by (cost arch) (messages events)
