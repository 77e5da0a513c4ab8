-- The laws of the definitions.
use Rattle.std.specs.Prelude.{◌≡◌, ◌↔◌, ℕ, List, [], Some, None}
use Rattle.tower_sexp.specs.declared.fault.SexpFault.{SexpFault}
use Rattle.tower_sexp.specs.declared.token.Token.{Token}
use Rattle.tower_sexp.specs.Marks.{Mark, marks_of, tokens_of}
use Rattle.tower_sexp.specs.Pieces.{Splits}
use Rattle.tower_sexp.specs.Faults.{rank, IsFault, IsFaultless}
use Rattle.tower_sexp.specs.FirstFault.{first_wrong, first_fault}
use Rattle.tower_sexp.specs.Trees.{Trees, Spells}
use Rattle.tower_sexp.specs.Nesting.{trees_spelled}

-- a text splits into pieces in exactly one way
abbrev pub TextSplits : Type 0
TextSplits = (bs : List ℕ) (ms : List Mark) → Splits 0 bs ms ↔ (ms ≡ marks_of bs)

-- the fault is the first of what offends
abbrev pub FaultIsFirst : Type 0
FaultIsFirst = (bs : List ℕ) (f : SexpFault) → (first_fault (marks_of bs) ≡ Some f) ↔ IsFault bs f

abbrev pub WrongIsFirst : Type 0
WrongIsFirst = (bs : List ℕ) (f : SexpFault) → (first_wrong [] (marks_of bs) ≡ Some f) ↔ (IsFault bs f × (rank f ≡ 0))

abbrev pub NoneIsFaultless : Type 0
NoneIsFaultless = (bs : List ℕ) → (first_fault (marks_of bs) ≡ None) ↔ IsFaultless bs

-- the tokens of a text with no fault spell trees
abbrev pub FaultlessSpells : Type 0
FaultlessSpells = (bs : List ℕ) → IsFaultless bs → Spells (trees_spelled (tokens_of bs)) (tokens_of bs)

-- tokens spell one list of trees at most
abbrev pub SpellsOne : Type 0
SpellsOne = (ts : Trees) (us : List Token) → Spells ts us → ts ≡ trees_spelled us
