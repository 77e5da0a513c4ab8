-- The ranges of what a source of a system writes.
use Rattle.std.specs.Prelude.{ℕ, Option, Some, None}
use Rattle.tower_syntax.specs.declared.arch.SourceKind.{SourceKind}
use Rattle.tower_syntax.specs.declared.arch.SourceKind.TheVariants as kind
use Rattle.tower_syntax.specs.Words.{IsPeriod, IsDepth}

-- a period has 1 to 1,000,000 milliseconds
abbrev pub IsKind : SourceKind → Type 0
IsKind (kind.Period ms) = IsPeriod ms
IsKind _ = Unit {0}

-- a queue has room for 1 to 64 messages
abbrev pub IsSomeDepth : Option ℕ → Type 0
IsSomeDepth None = Unit {0}
IsSomeDepth (Some n) = IsDepth n
