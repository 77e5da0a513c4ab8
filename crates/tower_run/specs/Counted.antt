-- What is counted on cores.
use Rattle.std.specs.Prelude.{ℕ, suc, List, Option, Some, None, slice_index, slice_set}

-- one more on a core, where there is one
abbrev pub counted_on : List ℕ → Option ℕ → List ℕ
counted_on counts None = counts
counted_on counts (Some i) = slice_set counts i (suc (slice_index counts i))
