-- The text that a lexer stands for.
use Rattle.std.specs.Prelude.{◌≡◌, ℕ, ◌+◌, ◌<◌, List, [], ◌∷◌, ◌++◌, length, true, Option, Some, None}
use Rattle.tower_sexp.specs.declared.byte.Class.TheVariants as class
use Rattle.tower_sexp.specs.declared.fault.SexpFault.{SexpFault}
use Rattle.tower_sexp.specs.declared.fault.SexpFault.TheVariants as fault
use Rattle.tower_sexp.specs.declared.lexer.Lexer.{Lexer}
use Rattle.tower_sexp.specs.Marks.{Mark, good, stray, marks, marks_of, class_of}
use Rattle.tower_sexp.specs.Faults.{unclosed}
use Rattle.tower_sexp.specs.FirstFault.{first_wrong, no_marks}
use Rattle.tower_sexp.specs.WholeTokens.{made_at, whole_tokens}
use Rattle.tower_sexp.specs.Lexing.{State, state_of}

abbrev pub AllAtom : List ℕ → Type 0
AllAtom [] = Unit {0}
AllAtom (b ∷ bs) = (class_of b ≡ class.Atom) × AllAtom bs

abbrev pub made_by : Mark → ℕ
made_by (good t) = made_at t
made_by (stray at) = at

abbrev pub AllMade : ℕ → List Mark → Type 0
AllMade end [] = Unit {0}
AllMade end (m ∷ ms) = (made_by m < end) × AllMade end ms

-- A lexer that reads on stands for a text where every text that begins with it has the same marks `done` first, and
-- behind them those of what the lexer keeps and what is to come.
pub record Reads (s : State) (bs : List ℕ) : Type 0 where
  pub taken : s.taken ≡ length bs
  pub start : s.start + length s.atom ≡ s.taken
  pub atom : AllAtom s.atom
  pub comment : s.comment ≡ true → s.atom ≡ []
  pub done : List Mark
  pub resumes : (more : List ℕ) → marks_of (bs ++ more) ≡ done ++ marks s.comment s.start (s.atom ++ more)
  pub made : AllMade s.taken done
  pub sound : first_wrong [] done ≡ None
  pub lists : s.lists ≡ unclosed done
  pub is_empty : s.is_empty ≡ no_marks done

-- A lexer that met a fault stands for a text where every text that begins with it has this fault, and the same tokens
-- up to it.
pub record Stops (f : SexpFault) (s : State) (bs : List ℕ) : Type 0 where
  pub taken : s.taken ≡ length bs
  pub wrong : (more : List ℕ) → first_wrong [] (marks_of (bs ++ more)) ≡ Some f
  pub same : (more : List ℕ) → whole_tokens (bs ++ more) ≡ whole_tokens bs

abbrev pub StandsBy : Option SexpFault → State → List ℕ → Type 0
StandsBy None s bs = Reads s bs
StandsBy (Some f) s bs = Stops f s bs

-- opaque to the crates above
unfoldable pub StandsFor : Lexer → List ℕ → Type 0
StandsFor l bs = StandsBy l.stopped (state_of l) bs

-- how many bytes a lexer has taken
abbrev pub count_taken : Lexer → ℕ
count_taken l = l.taken

-- how many lists are unclosed
abbrev pub count_unclosed : Lexer → ℕ
count_unclosed l = length (state_of l).lists

-- a lexer that ran out of memory
abbrev pub HasFailed : Lexer → Type 0
HasFailed l = l.stopped ≡ Some fault.NoMemory
