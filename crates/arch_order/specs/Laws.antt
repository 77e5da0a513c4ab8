-- What a text that was read, and its linked tree, keep.
use Rattle.std.specs.Prelude.{ℕ, List, length}
use Rattle.tower_syntax.specs.RawTree.{Id, Link, Raw}
use Rattle.tower_reader.specs.Spelled.{Spells}
use Rattle.arch_names.specs.Written.{Ascends}
use Rattle.arch_names.specs.Resolved.{IsLinked}
use Rattle.arch_types.specs.File.{AscendsFile}
use Rattle.arch_types.specs.Numbered.{IsNumbered}

-- its names stand in text order, no two at one place
abbrev pub ReadFilesAscend : Type 0
ReadFilesAscend = (bs : List ℕ) (raw : Raw Id) → Spells bs raw → Ascends raw

-- linked, the parts of its callbacks stand in text order, and before the end of the text
abbrev pub LinkedFilesAscend : Type 0
LinkedFilesAscend = (bs : List ℕ) (raw : Raw Id) (t : Raw Link) → Spells bs raw → IsLinked raw t → AscendsFile t (length bs)

-- linked, each of its numbers names something that exists and is in its range, and nothing is nested too deep
abbrev pub LinkedFilesAreNumbered : Type 0
LinkedFilesAreNumbered = (bs : List ℕ) (raw : Raw Id) (t : Raw Link) → Spells bs raw → IsLinked raw t → IsNumbered t
