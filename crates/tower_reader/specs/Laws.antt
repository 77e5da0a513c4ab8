-- The laws of the definitions.
use Rattle.std.specs.Prelude.{◌≡◌, ◌↔◌, ◌≤◌, ℕ, List, length, Ok, Err}
use Rattle.tower_syntax.specs.RawTree.{Id, Raw}
use Rattle.tower_syntax.specs.Form.{text}
use Rattle.tower_syntax.specs.Printed.{raw_form}
use Rattle.tower_syntax.specs.Printable.{IsPrintable}
use Rattle.tower_reader.specs.declared.fault.ReadFault.{ReadFault}
use Rattle.tower_reader.specs.Spelled.{Spells, byte_limit}
use Rattle.tower_reader.specs.Faults.{IsFault}
use Rattle.tower_reader.specs.Alike.{IsAlike}
use Rattle.tower_reader.specs.Forms.{form_of}
use Rattle.tower_reader.specs.Verdict.{verdict}

-- a text spells a tree exactly where the verdict is this tree
abbrev pub VerdictSpells : Type 0
VerdictSpells = (bs : List ℕ) (r : Raw Id) → (verdict bs ≡ Ok r) ↔ Spells bs r

-- and has a fault exactly where the verdict is this fault
abbrev pub VerdictFault : Type 0
VerdictFault = (bs : List ℕ) (f : ReadFault) → (verdict bs ≡ Err f) ↔ IsFault bs f

-- what a text spells can be printed: its names and numbers are valid, and its lists are nested at most 256 deep
abbrev pub SpelledIsPrintable : Type 0
SpelledIsPrintable = (bs : List ℕ) (r : Raw Id) → Spells bs r → IsPrintable r

-- and is printed as the nodes of the text are written
abbrev pub SpelledPrintsAsWritten : Type 0
SpelledPrintsAsWritten = (bs : List ℕ) (r : Raw Id) (s : Spells bs r) → raw_form r ≡ form_of s.node

-- the line that a tree is printed as spells a tree again, which is the printed one, offsets apart
abbrev pub PrintReadsBack : Type 0
PrintReadsBack = (r : Raw Id) → IsPrintable r → length (text (raw_form r)) ≤ byte_limit → (s : Raw Id) × Spells (text (raw_form r)) s × IsAlike r s

-- trees that are alike are printed as the same line
abbrev pub AlikePrintSame : Type 0
AlikePrintSame = (r s : Raw Id) → IsAlike r s → text (raw_form r) ≡ text (raw_form s)

-- and those that are printed as the same line are alike
abbrev pub SamePrintAlike : Type 0
SamePrintAlike = (r s : Raw Id) → IsPrintable r → IsPrintable s → length (text (raw_form r)) ≤ byte_limit → text (raw_form r) ≡ text (raw_form s) → IsAlike r s
