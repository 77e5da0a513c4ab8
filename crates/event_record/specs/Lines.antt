-- The lines of a text, and the words of a line.
use Rattle.std.specs.Prelude.{ℕ, List, [], ◌∷◌, Bool, true, false, ◌==◌, ◌||◌, cond}

abbrev pub Bytes : Type 0
Bytes = List ℕ

-- a byte before pieces: it is the first of the first piece, or a piece where there is none
abbrev pub led_by : ℕ → List Bytes → List Bytes
led_by b [] = (b ∷ []) ∷ []
led_by b (l ∷ ls) = (b ∷ l) ∷ ls

-- ---- lines

-- a byte before lines, which is an LF or not
abbrev pub line_led : Bool → ℕ → List Bytes → List Bytes
line_led true b ls = [] ∷ ls
line_led false b ls = led_by b ls

-- each line ends with LF, which the last may lack; the LF is no part of it
abbrev pub lines : Bytes → List Bytes
lines [] = []
lines (b ∷ bs) = line_led (b == 10) b (lines bs)

-- ---- words

-- space, tab, LF and CR
abbrev pub is_blank : ℕ → Bool
is_blank b = b == 0x20 || b == 0x09 || b == 0x0A || b == 0x0D

-- a blank comes next, or the end
abbrev pub is_at_blank : Bytes → Bool
is_at_blank [] = true
is_at_blank (b ∷ bs) = is_blank b

-- a byte before words: a blank, one that is a word alone, or one that joins the first word
abbrev pub word_led : Bool → Bool → ℕ → List Bytes → List Bytes
word_led true at_blank b ws = ws
word_led false true b ws = (b ∷ []) ∷ ws
word_led false false b ws = led_by b ws

-- the words of a line are its runs of bytes between blanks
abbrev pub words : Bytes → List Bytes
words [] = []
words (b ∷ bs) = word_led (is_blank b) (is_at_blank bs) b (words bs)

-- from the first blank on
abbrev pub from_blank : Bytes → Bytes
from_blank [] = []
from_blank (b ∷ bs) = cond (is_blank b) (b ∷ bs) (from_blank bs)

-- what stands behind the first word
abbrev pub behind_word : Bytes → Bytes
behind_word [] = []
behind_word (b ∷ bs) = cond (is_blank b) (behind_word bs) (from_blank bs)

-- ---- lines that say nothing

abbrev pub begins_with : ℕ → Bytes → Bool
begins_with c [] = false
begins_with c (b ∷ bs) = b == c

-- words of a line that is passed over: none, or the first begins with `;`
abbrev pub say_nothing : List Bytes → Bool
say_nothing [] = true
say_nothing (w ∷ ws) = begins_with 0x3B w
