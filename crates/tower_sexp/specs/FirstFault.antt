-- The fault of a text, computed from its first mark to its last.
use Rattle.std.specs.Prelude.{ℕ, List, [], ◌∷◌, length, Bool, true, false, if◌then◌else◌, ◌==◌, Option, Some, None}
use Rattle.tower_sexp.specs.declared.fault.SexpFault.{SexpFault}
use Rattle.tower_sexp.specs.declared.fault.SexpFault.TheVariants as fault
use Rattle.tower_sexp.specs.declared.token.Token.TheVariants as token
use Rattle.tower_sexp.specs.Marks.{Mark, good, stray}
use Rattle.tower_sexp.specs.Faults.{unclosed, unclosed_behind, nest_limit}

-- the first stray byte, bracket that closes nothing or bracket that nests too deep, behind so many unclosed lists
abbrev pub wrong_mark : List ℕ → Mark → Option SexpFault
wrong_mark lists (stray at) = Some (fault.Byte at)
wrong_mark lists (good (token.Left at)) = if length lists == nest_limit then Some (fault.Nest at) else None
wrong_mark [] (good (token.Right at)) = Some (fault.Unopened at)
wrong_mark (list ∷ lists) (good (token.Right at)) = None
wrong_mark lists (good (token.Atom at text)) = None

abbrev pub or_else : Option SexpFault → Option SexpFault → Option SexpFault
or_else (Some f) g = Some f
or_else None g = g

abbrev pub first_wrong : List ℕ → List Mark → Option SexpFault
first_wrong lists [] = None
first_wrong lists (m ∷ ms) = or_else (wrong_mark lists m) (first_wrong (unclosed_behind lists m) ms)

abbrev pub no_marks : List Mark → Bool
no_marks [] = true
no_marks (m ∷ ms) = false

-- the fault of a text with no wrong mark, by its unclosed lists and by whether it has no marks
abbrev pub fault_at_end : List ℕ → Bool → Option SexpFault
fault_at_end (at ∷ outer) is_empty = Some (fault.Unclosed at)
fault_at_end [] true = Some fault.Empty
fault_at_end [] false = None

abbrev pub first_fault : List Mark → Option SexpFault
first_fault ms = or_else (first_wrong [] ms) (fault_at_end (unclosed ms) (no_marks ms))
