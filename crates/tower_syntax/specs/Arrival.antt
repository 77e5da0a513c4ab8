-- What an entry of the event record brings to the sources.
use Rattle.std.specs.Prelude.{ℕ, zero, suc, ◌+◌, ◌%◌, pos, List, [], ◌∷◌, ◌++◌, cond, Bool, true, false, ◌==◌, Option, Some, None}
use Rattle.tower_types.specs.Value.{Value, word}
use Rattle.tower_syntax.specs.declared.arch.SourceKind.{SourceKind}
use Rattle.tower_syntax.specs.declared.arch.SourceKind.TheVariants as kind
use Rattle.tower_syntax.specs.Arch.{Entry, tick, signal}

abbrev pub is_init : SourceKind → Bool
is_init kind.Init = true
is_init _ = false

abbrev pub is_tick : Entry → Bool
is_tick tick = true
is_tick (signal x v) = false

-- how many of the entries are ticks
abbrev pub ticks : List Entry → ℕ
ticks [] = 0
ticks (e ∷ es) = cond (is_tick e) 1 0 + ticks es

abbrev pub divides : ℕ → ℕ → Bool
divides zero k = k == 0
divides (suc d) k = k % suc d == 0

abbrev pub is_due : ℕ → SourceKind → Bool
is_due k kind.Init = false
is_due k (kind.Period ms) = divides ms k
is_due k kind.Signal = false

-- the k-th tick brings k to each period whose ms divide k; sources are numbered from x on
abbrev pub brought_by_tick : ℕ → ℕ → List SourceKind → List (ℕ × Value)
brought_by_tick k x [] = []
brought_by_tick k x (s ∷ ss) = cond (is_due k s) ((x, word (pos k)) ∷ []) [] ++ brought_by_tick k (x + 1) ss

-- the messages that an entry brings, each with its source; k is the number of ticks up to it
abbrev pub brought : List SourceKind → ℕ → Entry → List (ℕ × Value)
brought kinds k tick = brought_by_tick k 0 kinds
brought kinds k (signal x v) = (x, v) ∷ []

-- a queue of n messages has as many as its depth
abbrev pub is_full : Option ℕ → ℕ → Bool
is_full None n = false
is_full (Some depth) n = n == depth
