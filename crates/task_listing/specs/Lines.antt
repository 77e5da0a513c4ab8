-- The lines of a text, and the words of a line.
use Rattle.std.specs.Prelude.{ℕ, List, [], ◌∷◌, ◌++◌, Bool, true, false, ◌==◌}
use Rattle.std.specs.List.{slice_split, join_with_byte}

abbrev pub Bytes : Type 0
Bytes = List ℕ

-- how many bytes a text may have
abbrev pub byte_limit : ℕ
byte_limit = 67108864

-- ---- writing

-- words with one blank between, and LF
abbrev pub line : List Bytes → Bytes
line words = join_with_byte 32 words ++ 10 ∷ []

-- the texts of items, one after another
abbrev pub texts : {A : Type 0} → (A → Bytes) → List A → Bytes
texts f [] = []
texts f (x ∷ xs) = f x ++ texts f xs

-- ---- reading

-- a byte before whole lines: it is the first of the first, or none of any where no LF comes
abbrev pub led_by : ℕ → List Bytes → List Bytes
led_by b [] = []
led_by b (l ∷ ls) = (b ∷ l) ∷ ls

abbrev pub line_led : Bool → ℕ → List Bytes → List Bytes
line_led true b ls = [] ∷ ls
line_led false b ls = led_by b ls

-- the lines that end with LF, which is no part of them
abbrev pub whole_lines : Bytes → List Bytes
whole_lines [] = []
whole_lines (b ∷ bs) = line_led (b == 10) b (whole_lines bs)

abbrev pub behind_led : ℕ → Bytes → List Bytes → Bytes → Bytes
behind_led b bs [] last = b ∷ bs
behind_led b bs (l ∷ ls) last = last

-- what stands behind the last LF
abbrev pub behind_lines : Bytes → Bytes
behind_lines [] = []
behind_lines (b ∷ bs) = behind_led b bs (whole_lines (b ∷ bs)) (behind_lines bs)

-- nothing is no line
abbrev pub if_any : Bytes → List Bytes
if_any [] = []
if_any (b ∷ bs) = (b ∷ bs) ∷ []

-- each line ends with LF, which the last may lack
abbrev pub lines : Bytes → List Bytes
lines text = whole_lines text ++ if_any (behind_lines text)

-- what stands between the blanks of a line
abbrev pub words : Bytes → List Bytes
words l = slice_split (λ b. b == 32) l
