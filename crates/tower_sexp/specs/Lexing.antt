-- What a lexer keeps of the bytes that it has taken, and what one more byte makes of that.
use Rattle.std.specs.Prelude.{ℕ, ◌+◌, List, [], ◌∷◌, ◌++◌, length, reverse, Bool, true, false, if◌then◌else◌, ◌==◌, ◌&&◌, Option, Some, None}
use Rattle.tower_sexp.specs.declared.byte.Class.{Class}
use Rattle.tower_sexp.specs.declared.byte.Class.TheVariants as class
use Rattle.tower_sexp.specs.declared.fault.SexpFault.{SexpFault}
use Rattle.tower_sexp.specs.declared.fault.SexpFault.TheVariants as fault
use Rattle.tower_sexp.specs.declared.token.Token.{Token}
use Rattle.tower_sexp.specs.declared.token.Token.TheVariants as token
use Rattle.tower_sexp.specs.declared.lexer.Lexer.{Lexer}
use Rattle.tower_sexp.specs.Marks.{class_in}
use Rattle.tower_sexp.specs.Faults.{nest_limit}

-- `atom` are the bytes of the atom that the last byte belongs to, and `start`
-- is where they begin, or where the next byte is.
pub record State : Type 0 where
  pub taken : ℕ
  pub comment : Bool
  pub start : ℕ
  pub atom : List ℕ
  pub lists : List ℕ
  pub is_empty : Bool
  pub stopped : Option SexpFault

abbrev pub state_of : Lexer → State
state_of l = record { taken = l.taken; comment = l.comment; start = l.start; atom = l.atom; lists = reverse l.unclosed; is_empty = l.is_empty; stopped = l.stopped }

abbrev pub begun : State
begun = record { taken = 0; comment = false; start = 0; atom = []; lists = []; is_empty = true; stopped = None }

-- The steps of a lexer, byte by byte.

abbrev pub is_nil : List ℕ → Bool
is_nil [] = true
is_nil (b ∷ bs) = false

-- the token of the bytes of an atom, if there are any
abbrev pub atom_if : ℕ → List ℕ → List Token
atom_if at [] = []
atom_if at (b ∷ bs) = token.Atom at (b ∷ bs) ∷ []

abbrev pub atom_put : State → List Token
atom_put s = atom_if s.start s.atom

abbrev pub lengthened : ℕ → State → State
lengthened b s = record s { taken = s.taken + 1; atom = s.atom ++ b ∷ [] }

abbrev pub atom_ended : State → State
atom_ended s = record s { atom = []; is_empty = s.is_empty && is_nil s.atom }

abbrev pub advanced : Bool → State → State
advanced comment s = record s { taken = s.taken + 1; comment = comment; start = s.taken + 1 }

abbrev pub passed : Bool → State → State
passed comment s = advanced comment (atom_ended s)

abbrev pub bracketed : List ℕ → State → State
bracketed lists s = record (advanced false (atom_ended s)) { lists = lists; is_empty = false }

abbrev pub stopped_by : SexpFault → State → State
stopped_by f s = record s { taken = s.taken + 1; stopped = Some f }

abbrev pub opened : State → State
opened s = if length s.lists == nest_limit then stopped_by (fault.Nest s.taken) s else bracketed (s.taken ∷ s.lists) s

abbrev pub closed_by : List ℕ → State → State
closed_by [] s = stopped_by (fault.Unopened s.taken) s
closed_by (list ∷ lists) s = bracketed lists s

abbrev pub read_by : Class → ℕ → State → State
read_by class.Atom b s = lengthened b s
read_by class.Blank b s = passed false s
read_by class.Comment b s = passed true s
read_by class.Left b s = opened s
read_by class.Right b s = closed_by s.lists s
read_by class.Stray b s = stopped_by (fault.Byte s.taken) s

abbrev pub next_state : ℕ → State → State
next_state b s = read_by (class_in s.comment b) b s

-- what those steps put
abbrev pub open_put : State → List Token
open_put s = if length s.lists == nest_limit then [] else atom_put s ++ token.Left s.taken ∷ []

abbrev pub close_put : List ℕ → State → List Token
close_put [] s = []
close_put (list ∷ lists) s = atom_put s ++ token.Right s.taken ∷ []

abbrev pub put_by : Class → State → List Token
put_by class.Atom s = []
put_by class.Blank s = atom_put s
put_by class.Comment s = atom_put s
put_by class.Left s = open_put s
put_by class.Right s = close_put s.lists s
put_by class.Stray s = []

abbrev pub next_put : ℕ → State → List Token
next_put b s = put_by (class_in s.comment b) s
