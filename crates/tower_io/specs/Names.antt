-- A copied name that may be absent.
use Rattle.std.specs.Prelude.{ℕ, Option, List, [], None, Some, string_bytes}
use Rattle.std.specs.declared.string.String.{String}
use Rattle.std.specs.declared.alloc.Global.{Global}

-- the bytes of a name, or none where there is no name
abbrev pub name_or_empty : Option (String Global) → List ℕ
name_or_empty None = []
name_or_empty (Some name) = string_bytes name
