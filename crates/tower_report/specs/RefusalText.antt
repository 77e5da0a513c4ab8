-- The lines on `err` of a call that gives no text, but for that of a file's fault.
use Rattle.std.specs.Prelude.{ℕ, List, [], ◌∷◌, codes, decimal}
use Rattle.tower_report.specs.Bytes.{Bytes, line}

abbrev pub usage_line : Bytes
usage_line = line (codes "usage: towerc COMMAND FILE [OPTIONS]" ∷ [])

-- the text of this name could not be read
abbrev pub unread_line : List ℕ → Bytes
unread_line name = line (codes "cannot read" ∷ name ∷ [])

-- the text of an input has a fault of this kind, at a line or an offset
abbrev pub bad_line : Bytes → ℕ → Bytes → Bytes
bad_line input at kind = line (codes "bad" ∷ input ∷ decimal at ∷ kind ∷ [])
