-- Texts by name, of which at most one is open.
use Rattle.std.specs.Prelude.{ℕ, Option, None, Some, List, [], ◌∷◌, unwrap_or, if◌then◌else◌}
use Rattle.std.specs.Str.{bytes_eq}

-- a name and its text
pub record Entry : Type 0 where
  pub name : List ℕ
  pub text : List ℕ

pub record Library : Type 0 where
  pub entries : List Entry
  -- the name with which the open text was begun, or none where no text is open
  pub opened : Option (List ℕ)
  -- the rest of the open text
  pub left : List ℕ

-- the text of the first entry with the name
abbrev pub text_of : List Entry → List ℕ → Option (List ℕ)
text_of [] name = None
text_of (entry ∷ entries) name = if bytes_eq entry.name name then Some entry.text else text_of entries name

-- the text of a name, which is empty where the name is absent
abbrev pub sure_text_of : List Entry → List ℕ → List ℕ
sure_text_of entries name = unwrap_or (text_of entries name) []

-- a library with no text open
abbrev pub shut : List Entry → Library
shut entries = record { entries = entries; opened = None; left = [] }

-- the library with this text open
abbrev pub begun : List Entry → List ℕ → List ℕ → Library
begun entries name text = record { entries = entries; opened = Some name; left = text }
