-- The faults of a text: what offends, and which offence is the first.
use Rattle.std.specs.Prelude.{◌≡◌, ◌⊎◌, ℕ, ◌<◌, List, [], ◌∷◌, ◌++◌, length}
use Rattle.std.specs.List.{fold}
use Rattle.tower_sexp.specs.declared.fault.SexpFault.{SexpFault}
use Rattle.tower_sexp.specs.declared.fault.SexpFault.TheVariants as fault
use Rattle.tower_sexp.specs.declared.token.Token.TheVariants as token
use Rattle.tower_sexp.specs.Marks.{Mark, good, stray, tokens, marks_of}

abbrev pub tail : List ℕ → List ℕ
tail [] = []
tail (x ∷ xs) = xs

-- the lists that are unclosed behind a mark, the innermost first
abbrev pub unclosed_behind : List ℕ → Mark → List ℕ
unclosed_behind lists (good (token.Left at)) = at ∷ lists
unclosed_behind lists (good (token.Right at)) = tail lists
unclosed_behind lists (good (token.Atom at text)) = lists
unclosed_behind lists (stray at) = lists

-- the lists that are unclosed behind all marks, the innermost first
abbrev pub unclosed : List Mark → List ℕ
unclosed ms = fold unclosed_behind [] ms

-- how many lists may be unclosed at once
abbrev pub nest_limit : ℕ
nest_limit = 256

-- `m` is one of the marks, and `before` are those before it
abbrev pub Has : List Mark → List Mark → Mark → Type 0
Has ms before m = (behind : List Mark) × (ms ≡ before ++ m ∷ behind)

-- what offends in a text with these marks
abbrev pub Offends : List Mark → SexpFault → Type 0
Offends ms (fault.Byte at) = (before : List Mark) × Has ms before (stray at)
Offends ms (fault.Unopened at) = (before : List Mark) × Has ms before (good (token.Right at)) × (unclosed before ≡ [])
Offends ms (fault.Nest at) = (before : List Mark) × Has ms before (good (token.Left at)) × (length (unclosed before) ≡ nest_limit)
Offends ms (fault.Unclosed at) = (outer : List ℕ) × (unclosed ms ≡ at ∷ outer)
Offends ms fault.Empty = tokens ms ≡ []
Offends ms fault.NoMemory = ⊥

-- the three kinds that come by their offsets, and then the others
abbrev pub rank : SexpFault → ℕ
rank (fault.Byte at) = 0
rank (fault.Unopened at) = 0
rank (fault.Nest at) = 0
rank (fault.Unclosed at) = 1
rank fault.Empty = 2
rank fault.NoMemory = 3

abbrev pub offset : SexpFault → ℕ
offset (fault.Byte at) = at
offset (fault.Unopened at) = at
offset (fault.Nest at) = at
offset (fault.Unclosed at) = at
offset fault.Empty = 0
offset fault.NoMemory = 0

abbrev pub Precedes : SexpFault → SexpFault → Type 0
Precedes f g = (rank f < rank g) ⊎ ((rank f ≡ rank g) × (offset f < offset g))

pub record IsFirst (ms : List Mark) (f : SexpFault) : Type 0 where
  pub offends : Offends ms f
  pub precedes : (g : SexpFault) → Offends ms g → (g ≡ f) ⊎ Precedes f g

-- the fault of a text
abbrev pub IsFault : List ℕ → SexpFault → Type 0
IsFault bs f = IsFirst (marks_of bs) f

-- a text with no fault
abbrev pub IsFaultless : List ℕ → Type 0
IsFaultless bs = (f : SexpFault) → Offends (marks_of bs) f → ⊥
