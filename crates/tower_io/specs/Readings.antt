-- How a library is kept: a list of files, and a place in one of them.
use Rattle.std.specs.Prelude.{ℕ, ◌≤◌, ◌<◌, Option, None, Some, List, [], map, length, drop, slice_get, string_bytes, IfSome}
use Rattle.std.specs.declared.string.String.{String}
use Rattle.std.specs.declared.vec.Vec.{Vec}
use Rattle.std.specs.declared.alloc.Global.{Global}
use Rattle.std.specs.Option.{option_map}
use Rattle.tower_io.specs.declared.texts.Reading.{Reading}
use Rattle.tower_io.specs.Texts.{Entry, Library}

abbrev pub File : Type 0
File = String Global × Vec ℕ Global

abbrev pub entry_of : File → Entry
entry_of file = record { name = string_bytes file.0; text = file.1.items }

abbrev pub text_or_empty : Option File → List ℕ
text_or_empty None = []
text_or_empty (Some file) = file.1.items

-- the text of the file with this index, or the empty text where there is none
abbrev pub text_at : List File → Option ℕ → List ℕ
text_at files None = []
text_at files (Some i) = text_or_empty (slice_get files i)

abbrev pub rest_of : List File → Option Reading → List ℕ
rest_of files None = []
rest_of files (Some r) = drop r.at (text_at files r.file)

-- a reading's file is one of the files, and its place is in the text
abbrev pub IsReading : List File → Option Reading → Type 0
IsReading files None = Unit {0}
IsReading files (Some r) = (IfSome r.file (λ i. i < length files)) × (r.at ≤ length (text_at files r.file))

abbrev pub library_of : List File → Option Reading → Library
library_of files reading = record {
  entries = map entry_of files;
  opened = option_map (λ r. string_bytes r.name) reading;
  left = rest_of files reading;
}
