-- Atoms and lists without their offsets, and the line that they are printed as.
use Rattle.std.specs.Prelude.{ℕ, ◌+◌, max, List, [], ◌∷◌, ◌++◌, codes}

mutual
  pub data Form : Type 0 where
    atom : List ℕ → Form
    list : Forms → Form

  pub data Forms : Type 0 where
    no_forms : Forms
    form : Form → Forms → Forms

abbrev pub forms : List Form → Forms
forms [] = no_forms
forms (f ∷ fs) = form f (forms fs)

-- a list with a head and so many children
abbrev pub row : List ℕ → List Form → Form
row head children = list (form (atom head) (forms children))

-- the tokens of a form in order, with one blank between the children of a list and none elsewhere
abbrev mutual
  pub text : Form → List ℕ
  text (atom w) = w
  text (list fs) = codes "(" ++ line fs ++ codes ")"

  pub line : Forms → List ℕ
  line no_forms = []
  line (form f fs) = text f ++ each_spaced fs

  pub each_spaced : Forms → List ℕ
  each_spaced no_forms = []
  each_spaced (form f fs) = (codes " " ++ text f) ++ each_spaced fs

-- a form with one blank before it, and so each of a list of forms
abbrev pub spaced : Form → List ℕ
spaced f = codes " " ++ text f

abbrev pub all_spaced : List Form → List ℕ
all_spaced fs = each_spaced (forms fs)

-- how many lists stand in one another
abbrev mutual
  pub nesting : Form → ℕ
  nesting (atom w) = 0
  nesting (list fs) = nesting_of_all fs + 1

  pub nesting_of_all : Forms → ℕ
  nesting_of_all no_forms = 0
  nesting_of_all (form f fs) = max (nesting f) (nesting_of_all fs)
