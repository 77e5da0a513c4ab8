-- Texts as lists of bytes: words with one blank between, and lines of words.
use Rattle.std.specs.Prelude.{ℕ, zero, suc, List, [], ◌∷◌, ◌++◌, codes}
use Rattle.std.specs.List.{join_with_byte}

abbrev pub Bytes : Type 0
Bytes = List ℕ

-- with one blank between
abbrev pub spaced : List Bytes → Bytes
spaced texts = join_with_byte 32 texts

-- a line ends with LF
abbrev pub line : List Bytes → Bytes
line words = spaced words ++ 10 ∷ []

abbrev pub in_brackets : List Bytes → Bytes
in_brackets texts = codes "(" ++ spaced texts ++ codes ")"

-- the blank before each item of a list but the first
abbrev pub separator : ℕ → Bytes
separator zero = []
separator (suc i) = 32 ∷ []

-- words, and a blank after the last
abbrev pub head : List Bytes → Bytes
head words = spaced words ++ 32 ∷ []
