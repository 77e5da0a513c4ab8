-- The marks of a text: its tokens, and the bytes that may stand nowhere.
use Rattle.std.specs.Prelude.{ℕ, ◌+◌, List, [], ◌∷◌, Bool, true, false, if◌then◌else◌, ◌==◌, ◌&&◌, ◌||◌, nat_le, Option, Some, None}
use Rattle.std.specs.List.{filter_map}
use Rattle.tower_sexp.specs.declared.byte.Class.{Class}
use Rattle.tower_sexp.specs.declared.byte.Class.TheVariants as class
use Rattle.tower_sexp.specs.declared.token.Token.{Token}
use Rattle.tower_sexp.specs.declared.token.Token.TheVariants as token

-- what a byte is, outside a comment
abbrev pub class_of : ℕ → Class
class_of b =
    if b == 0x20 || b == 0x09 || b == 0x0A || b == 0x0D then class.Blank else
    (if b == 0x28 then class.Left else
    (if b == 0x29 then class.Right else
    (if b == 0x3B then class.Comment else
    (if nat_le 0x21 b && nat_le b 0x7E then class.Atom else class.Stray))))

-- what a byte is behind a byte of a comment: the comment runs on to before the next LF
abbrev pub class_behind : ℕ → Class
class_behind b = if b == 0x0A then class.Blank else class.Comment

-- what a byte is, behind a byte of a comment or any other
abbrev pub class_in : Bool → ℕ → Class
class_in true b = class_behind b
class_in false b = class_of b

abbrev pub is_comment : Class → Bool
is_comment class.Comment = true
is_comment class.Blank = false
is_comment class.Left = false
is_comment class.Right = false
is_comment class.Atom = false
is_comment class.Stray = false

-- a token, or the offset of a stray byte
pub data Mark : Type 0 where
  good : Token → Mark
  stray : ℕ → Mark

-- an atom of one byte
abbrev pub alone : ℕ → ℕ → Mark
alone at b = good (token.Atom at (b ∷ []))

-- A byte of an atom before marks: it joins an atom that begins at the very next byte.
abbrev pub joined : ℕ → ℕ → List Mark → List Mark
joined at b (good (token.Atom next text) ∷ ms) =
    if next == at + 1 then good (token.Atom at (b ∷ text)) ∷ ms else alone at b ∷ good (token.Atom next text) ∷ ms
joined at b ms = alone at b ∷ ms

-- a byte at an offset, before the marks of the bytes behind it
abbrev pub marked : Class → ℕ → ℕ → List Mark → List Mark
marked class.Left at b ms = good (token.Left at) ∷ ms
marked class.Right at b ms = good (token.Right at) ∷ ms
marked class.Atom at b ms = joined at b ms
marked class.Stray at b ms = stray at ∷ ms
marked class.Blank at b ms = ms
marked class.Comment at b ms = ms

-- the marks of bytes from an offset on, behind a byte of a comment or any other
abbrev pub marks : Bool → ℕ → List ℕ → List Mark
marks comment at [] = []
marks comment at (b ∷ bs) = marked (class_in comment b) at b (marks (is_comment (class_in comment b)) (at + 1) bs)

-- the marks of a text
abbrev pub marks_of : List ℕ → List Mark
marks_of bs = marks false 0 bs

abbrev pub token_of : Mark → Option Token
token_of (good t) = Some t
token_of (stray at) = None

abbrev pub tokens : List Mark → List Token
tokens ms = filter_map token_of ms

-- the tokens of a text
abbrev pub tokens_of : List ℕ → List Token
tokens_of bs = tokens (marks_of bs)
