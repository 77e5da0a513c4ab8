-- Words and lines, put together and split again.
use Rattle.std.proofs.Common.{◌≡◌, ◌∙◌, ℕ, List, [], ◌∷◌, ◌++◌, Bool, true, false, refl, sym, ap, eqb, append_assoc}
use Rattle.std.specs.Prelude.{◌||◌}
use Rattle.std.specs.List.{All, join_with_byte}
use Rattle.std.proofs.lemmas.Bool.{eqb-true}
use Rattle.std.proofs.lemmas.List.Elements.{All-nil, All-cons}
use Rattle.std.proofs.lemmas.List.Splits.{slice_split_none, slice_split_at}
use Rattle.task_listing.specs.Lines.{Bytes, line_led, led_by, whole_lines, behind_led, behind_lines, words, texts}
use Rattle.task_listing.specs.Numbers.{is_blank, has_blank}

-- ---- words

abbrev pub AllClean : List Bytes → Type 0
AllClean [] = Unit {0}
AllClean (w ∷ ws) = (has_blank w ≡ false) × AllClean ws

-- words, at least one, none of which has a blank
abbrev pub AreClean : List Bytes → Type 0
AreClean [] = ⊥
AreClean (w ∷ ws) = (has_blank w ≡ false) × AllClean ws

or_false : (a b : Bool) → a || b ≡ false → (a ≡ false) × (b ≡ false)
or_false false b h = (refl, h)
or_false true b h = cc

-- a blank is neither of these
no_space : (b : ℕ) → is_blank b ≡ false → eqb b 32 ≡ false
no_space b h = (or_false (eqb b 32) _ (or_false (eqb b 32 || eqb b 9) _ (or_false (eqb b 32 || eqb b 9 || eqb b 10) _ h).0).0).0

no_lf : (b : ℕ) → is_blank b ≡ false → eqb b 10 ≡ false
no_lf b h = (or_false (eqb b 32 || eqb b 9) (eqb b 10) (or_false (eqb b 32 || eqb b 9 || eqb b 10) _ h).0).1

no_spaces : (w : Bytes) → has_blank w ≡ false → All (λ b. eqb b 32 ≡ false) w
no_spaces [] h = All-nil (λ b. eqb b 32 ≡ false)
no_spaces (b ∷ w) h =
    let k = or_false (is_blank b) (has_blank w) h in
    All-cons (λ b. eqb b 32 ≡ false) b w (no_space b k.0) (no_spaces w k.1)

words_by : (w : Bytes) (ws : List Bytes) → has_blank w ≡ false → AllClean ws → words (join_with_byte 32 (w ∷ ws)) ≡ w ∷ ws
words_by w [] h c = slice_split_none (λ b. eqb b 32) w (no_spaces w h)
words_by w (v ∷ vs) h c =
    slice_split_at (λ b. eqb b 32) w 32 (join_with_byte 32 (v ∷ vs)) (no_spaces w h) refl ∙ ap (λ ws. w ∷ ws) (words_by v vs c.0 c.1)

-- words with a blank between are split again
pub words_joined : (ws : List Bytes) → AreClean ws → words (join_with_byte 32 ws) ≡ ws
words_joined [] h = absurd h
words_joined (w ∷ ws) h = words_by w ws h.0 h.1

-- ---- lines

abbrev NoLf : Bytes → Type 0
NoLf [] = Unit {0}
NoLf (b ∷ bs) = (eqb b 10 ≡ false) × NoLf bs

abbrev pub AllNoLf : List Bytes → Type 0
AllNoLf [] = Unit {0}
AllNoLf (l ∷ ls) = NoLf l × AllNoLf ls

word_no_lf : (w : Bytes) → has_blank w ≡ false → NoLf w
word_no_lf [] h = tt
word_no_lf (b ∷ w) h = let k = or_false (is_blank b) (has_blank w) h in (no_lf b k.0, word_no_lf w k.1)

no_lf_both : (l k : Bytes) → NoLf l → NoLf k → NoLf (l ++ k)
no_lf_both [] k h g = g
no_lf_both (b ∷ l) k h g = (h.0, no_lf_both l k h.1 g)

line_by : (w : Bytes) (ws : List Bytes) → has_blank w ≡ false → AllClean ws → NoLf (join_with_byte 32 (w ∷ ws))
line_by w [] h c = word_no_lf w h
line_by w (v ∷ vs) h c = no_lf_both w (32 ∷ join_with_byte 32 (v ∷ vs)) (word_no_lf w h) (refl, line_by v vs c.0 c.1)

pub joined_no_lf : (ws : List Bytes) → AreClean ws → NoLf (join_with_byte 32 ws)
joined_no_lf [] h = absurd h
joined_no_lf (w ∷ ws) h = line_by w ws h.0 h.1

pub all_no_lf : (ls ks : List Bytes) → AllNoLf ls → AllNoLf ks → AllNoLf (ls ++ ks)
all_no_lf [] ks h g = g
all_no_lf (l ∷ ls) ks h g = (h.0, all_no_lf ls ks h.1 g)

whole_first : (l rest : Bytes) → NoLf l → whole_lines (l ++ 10 ∷ rest) ≡ l ∷ whole_lines rest
whole_first [] rest h = refl
whole_first (b ∷ l) rest h = ap (λ t. line_led t b (whole_lines (l ++ 10 ∷ rest))) h.0 ∙ ap (led_by b) (whole_first l rest h.1)

behind_first : (l rest : Bytes) → NoLf l → behind_lines (l ++ 10 ∷ rest) ≡ behind_lines rest
behind_first [] rest h = refl
behind_first (b ∷ l) rest h = ap (λ ls. behind_led b (l ++ 10 ∷ rest) ls (behind_lines (l ++ 10 ∷ rest))) (whole_first (b ∷ l) rest h) ∙ behind_first l rest h.1

-- a line with its LF
abbrev pub ended : Bytes → Bytes
ended l = l ++ 10 ∷ []

pub whole_ended : (ls : List Bytes) → AllNoLf ls → whole_lines (texts ended ls) ≡ ls
whole_ended [] h = refl
whole_ended (l ∷ ls) h = ap whole_lines (append_assoc l (10 ∷ []) (texts ended ls)) ∙ whole_first l (texts ended ls) h.0 ∙ ap (λ ls. l ∷ ls) (whole_ended ls h.1)

pub behind_ended : (ls : List Bytes) → AllNoLf ls → behind_lines (texts ended ls) ≡ []
behind_ended [] h = refl
behind_ended (l ∷ ls) h = ap behind_lines (append_assoc l (10 ∷ []) (texts ended ls)) ∙ behind_first l (texts ended ls) h.0 ∙ behind_ended ls h.1

led_back : (b : ℕ) (bs : Bytes) (ls : List Bytes) (last : Bytes) → whole_lines bs ≡ ls → texts ended ls ++ last ≡ bs → texts ended (led_by b ls) ++ behind_led b bs (led_by b ls) last ≡ b ∷ bs
led_back b bs [] last e h = refl
led_back b bs (l ∷ ls) last e h = ap (λ bs. b ∷ bs) h

back_by : (t : Bool) (b : ℕ) (bs : Bytes) → eqb b 10 ≡ t → texts ended (whole_lines bs) ++ behind_lines bs ≡ bs
    → texts ended (line_led t b (whole_lines bs)) ++ behind_led b bs (line_led t b (whole_lines bs)) (behind_lines bs) ≡ b ∷ bs
back_by true b bs e h = λ i. sym (eqb-true b 10 e) i ∷ h i
back_by false b bs e h = led_back b bs (whole_lines bs) (behind_lines bs) refl h

-- the lines of a text and what stands behind them are the text
pub lines_back : (bs : Bytes) → texts ended (whole_lines bs) ++ behind_lines bs ≡ bs
lines_back [] = refl
lines_back (b ∷ bs) = back_by (eqb b 10) b bs refl (lines_back bs)

pub texts_both : {A : Type 0} (f : A → Bytes) (xs ys : List A) → texts f (xs ++ ys) ≡ texts f xs ++ texts f ys
texts_both f [] ys = refl
texts_both f (x ∷ xs) ys = ap (λ t. f x ++ t) (texts_both f xs ys) ∙ sym (append_assoc (f x) (texts f xs) (texts f ys))
