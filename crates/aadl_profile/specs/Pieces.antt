-- The canonical text in pieces: a piece is one token as it is written.
use Rattle.std.specs.Prelude.{ℕ, ◌+◌, List, [], ◌∷◌, ◌++◌, map, codes, Bool, true, false, ◌&&◌, ◌||◌, cond, nat_le, nat_eq, bytes_eq}
use Rattle.std.specs.List.{list_any}
use Rattle.aadl_profile.specs.declared.said.Id.{Id}
use Rattle.aadl_profile.specs.Strings.{Bytes}

-- A name's offset is kept in what a text says; so is that of a string that names something.
pub data Piece : Type 0 where
  sign : Bytes → Piece
  word : Bytes → Piece  -- an identifier or a number, at any offset
  named : ℕ → Bytes → Piece  -- an identifier, at this offset
  string : Bytes → Piece  -- a string with this content, at any offset
  string_at : ℕ → Bytes → Piece  -- a string with this content, at this offset

-- identifiers have no case: a token has them in lower case
abbrev pub lower_byte : ℕ → ℕ
lower_byte b = cond (nat_le 65 b && nat_le b 90) (b + 32) b

abbrev pub lower : Bytes → Bytes
lower = map lower_byte

abbrev pub quote : ℕ
quote = 34

-- the text of the token: a string without the quote at its end
abbrev pub token_text : Piece → Bytes
token_text (sign w) = w
token_text (word w) = lower w
token_text (named at w) = lower w
token_text (string w) = quote ∷ w
token_text (string_at at w) = quote ∷ w

-- as it is written
abbrev pub written : Piece → Bytes
written (sign w) = w
written (word w) = w
written (named at w) = w
written (string w) = quote ∷ w ++ quote ∷ []
written (string_at at w) = quote ∷ w ++ quote ∷ []

-- ---- the blanks between them

abbrev pub is_one_of : List Bytes → Bytes → Bool
is_one_of ws w = list_any (bytes_eq w) ws

-- no blank stands before these signs
abbrev pub joins_left : Piece → Bool
joins_left (sign w) = is_one_of (codes ";" ∷ codes "," ∷ codes ")" ∷ codes "." ∷ codes "::" ∷ []) w
joins_left _ = false

-- nor behind these
abbrev pub joins_right : Piece → Bool
joins_right (sign w) = is_one_of (codes "(" ∷ codes "." ∷ codes "::" ∷ []) w
joins_right _ = false

abbrev pub between : Piece → Piece → Bytes
between p q = cond (joins_right p || joins_left q) [] (codes " ")

abbrev pub joined : List Piece → Bytes
joined [] = []
joined (p ∷ []) = written p
joined (p ∷ q ∷ ps) = written p ++ between p q ++ joined (q ∷ ps)

-- ---- fixed pieces, written in one text with a blank between any two

abbrev pub put_byte : ℕ → List Bytes → List Bytes
put_byte b [] = (b ∷ []) ∷ []
put_byte b (w ∷ ws) = (b ∷ w) ∷ ws

abbrev pub split_at_blanks : Bytes → List Bytes
split_at_blanks [] = [] ∷ []
split_at_blanks (b ∷ bs) = cond (nat_eq b 32) ([] ∷ split_at_blanks bs) (put_byte b (split_at_blanks bs))

abbrev pub is_letter_or_digit : ℕ → Bool
is_letter_or_digit b = (nat_le 48 b && nat_le b 57) || (nat_le 65 b && nat_le b 90) || (nat_le 97 b && nat_le b 122)

abbrev pub piece_of : Bytes → Piece
piece_of [] = sign []
piece_of (b ∷ bs) = cond (is_letter_or_digit b) (word (b ∷ bs)) (sign (b ∷ bs))

abbrev pub fixed : Bytes → List Piece
fixed text = map piece_of (split_at_blanks text)

-- elements with a comma between
abbrev pub listed : List Piece → List Piece
listed [] = []
listed (p ∷ []) = p ∷ []
listed (p ∷ q ∷ ps) = p ∷ sign (codes ",") ∷ listed (q ∷ ps)

-- ---- lines

pub record Line : Type 0 where
  pub indent : ℕ
  pub pieces : List Piece
