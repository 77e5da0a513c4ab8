-- The first line of a text, and the first word of a line.
use Rattle.std.proofs.Common.{◌≡◌, ◌≢◌, ◌<◌, ◌≤◌, ℕ, zero, suc, ◌+◌, List, [], ◌∷◌, length, take, drop, Bool, true, false, not, cond, refl, ap, sym, ◌∙◌, arith, eqb, ◌-◌, length-drop}
use Rattle.std.proofs.lemmas.List.{take_all}
use Rattle.std.specs.List.{prefix_len}
use Rattle.event_record.specs.declared.run.Sort.TheVariants as sort
use Rattle.event_record.specs.Lines.{Bytes, led_by, lines, line_led, words, word_led, is_blank, is_at_blank, behind_word, from_blank}
use Rattle.event_record.specs.Runs.{is_of}

pub take_more : (m : ℕ) (b : ℕ) (bs : Bytes) → take (1 + m) (b ∷ bs) ≡ b ∷ take m bs
take_more m b bs = let e : 1 + m ≡ suc m = omega arith in ap (λ k. take k (b ∷ bs)) e

pub drop_more : (m : ℕ) (b : ℕ) (bs : Bytes) → drop (1 + m) (b ∷ bs) ≡ drop m bs
drop_more m b bs = let e : 1 + m ≡ suc m = omega arith in ap (λ k. drop k (b ∷ bs)) e

drop_past : (m : ℕ) (b : ℕ) (bs : Bytes) → drop (1 + m + 1) (b ∷ bs) ≡ drop (m + 1) bs
drop_past m b bs = let e : 1 + m + 1 ≡ suc (m + 1) = omega arith in ap (λ k. drop k (b ∷ bs)) e

-- ---- lines

abbrev line_end : Bytes → ℕ
line_end bs = prefix_len (is_of sort.Line) bs

line_joined : (b m : ℕ) (bs : Bytes) → lines bs ≡ take m bs ∷ lines (drop (m + 1) bs) → led_by b (lines bs) ≡ take (1 + m) (b ∷ bs) ∷ lines (drop (1 + m + 1) (b ∷ bs))
line_joined b m bs h =
    ap (led_by b) h
    ∙ ap (λ l. l ∷ lines (drop (m + 1) bs)) (sym (take_more m b bs))
    ∙ ap (λ r. take (1 + m) (b ∷ bs) ∷ lines r) (sym (drop_past m b bs))

line_by : (c : Bool) (b : ℕ) (bs : Bytes) → (bs ≢ [] → lines bs ≡ take (line_end bs) bs ∷ lines (drop (line_end bs + 1) bs))
    → line_led c b (lines bs) ≡ take (cond (not c) (1 + line_end bs) 0) (b ∷ bs) ∷ lines (drop (cond (not c) (1 + line_end bs) 0 + 1) (b ∷ bs))
line_by true b bs ih = refl
line_by false b [] ih = refl
line_by false b (x ∷ xs) ih = line_joined b (line_end (x ∷ xs)) (x ∷ xs) (ih (λ e. cc))

-- a text that is not empty is its first line, and the lines behind it
pub first_line : (bs : Bytes) → bs ≢ [] → lines bs ≡ take (prefix_len (is_of sort.Line) bs) bs ∷ lines (drop (prefix_len (is_of sort.Line) bs + 1) bs)
first_line [] h = absurd (h refl)
first_line (b ∷ bs) h = line_by (eqb b 10) b bs (first_line bs)

-- ---- words

abbrev blanks : Bytes → ℕ
blanks bs = prefix_len (is_of sort.Blank) bs

skip_by : (c : Bool) (b : ℕ) (bs : Bytes) → is_blank b ≡ c → words bs ≡ words (drop (blanks bs) bs) → words (b ∷ bs) ≡ words (drop (cond c (1 + blanks bs) 0) (b ∷ bs))
skip_by true b bs e ih = ap (λ c. word_led c (is_at_blank bs) b (words bs)) e ∙ ih ∙ ap words (sym (drop_more (blanks bs) b bs))
skip_by false b bs e ih = refl

-- blanks before words are none of them
pub words_skip : (bs : Bytes) → words bs ≡ words (drop (prefix_len (is_of sort.Blank) bs) bs)
words_skip [] = refl
words_skip (b ∷ bs) = skip_by (is_blank b) b bs refl (words_skip bs)

behind_by : (c : Bool) (b : ℕ) (bs : Bytes) → is_blank b ≡ c → behind_word bs ≡ behind_word (drop (blanks bs) bs) → behind_word (b ∷ bs) ≡ behind_word (drop (cond c (1 + blanks bs) 0) (b ∷ bs))
behind_by true b bs e ih = ap (λ c. cond c (behind_word bs) (from_blank bs)) e ∙ ih ∙ ap behind_word (sym (drop_more (blanks bs) b bs))
behind_by false b bs e ih = refl

pub behind_skip : (bs : Bytes) → behind_word bs ≡ behind_word (drop (prefix_len (is_of sort.Blank) bs) bs)
behind_skip [] = refl
behind_skip (b ∷ bs) = behind_by (is_blank b) b bs refl (behind_skip bs)

at_word_by : (c : Bool) (b : ℕ) (bs : Bytes) → is_blank b ≡ c → (blanks bs < length bs → is_at_blank (drop (blanks bs) bs) ≡ false) → cond c (1 + blanks bs) 0 < length (b ∷ bs) → is_at_blank (drop (cond c (1 + blanks bs) 0) (b ∷ bs)) ≡ false
at_word_by true b bs e ih h = ap is_at_blank (drop_more (blanks bs) b bs) ∙ ih (omega (arith, h))
at_word_by false b bs e ih h = e

-- behind blanks that are not all comes a word
pub at_word : (bs : Bytes) → prefix_len (is_of sort.Blank) bs < length bs → is_at_blank (drop (prefix_len (is_of sort.Blank) bs) bs) ≡ false
at_word [] h = absurd (omega (arith, h))
at_word (b ∷ bs) h = at_word_by (is_blank b) b bs refl (at_word bs) h

abbrev word_end : Bytes → ℕ
word_end bs = prefix_len (is_of sort.Word) bs

word_none : (bs : Bytes) → is_at_blank bs ≡ true → word_end bs ≡ 0
word_none [] h = refl
word_none (b ∷ bs) h = ap (λ c. cond (not c) (1 + word_end bs) 0) h

word_alone : (b m : ℕ) (bs : Bytes) → m ≡ 0 → (b ∷ []) ∷ words bs ≡ take (1 + m) (b ∷ bs) ∷ words (drop (1 + m) (b ∷ bs))
word_alone b m bs e = ap (λ m. take (1 + m) (b ∷ bs) ∷ words (drop (1 + m) (b ∷ bs))) (sym e)

word_joined : (b m : ℕ) (bs : Bytes) → words bs ≡ take m bs ∷ words (drop m bs) → led_by b (words bs) ≡ take (1 + m) (b ∷ bs) ∷ words (drop (1 + m) (b ∷ bs))
word_joined b m bs h =
    ap (led_by b) h
    ∙ ap (λ l. l ∷ words (drop m bs)) (sym (take_more m b bs))
    ∙ ap (λ r. take (1 + m) (b ∷ bs) ∷ words r) (sym (drop_more m b bs))

word_by : (c : Bool) (b : ℕ) (bs : Bytes) → is_at_blank bs ≡ c → (is_at_blank bs ≡ false → words bs ≡ take (word_end bs) bs ∷ words (drop (word_end bs) bs))
    → word_led false c b (words bs) ≡ take (1 + word_end bs) (b ∷ bs) ∷ words (drop (1 + word_end bs) (b ∷ bs))
word_by true b bs e ih = word_alone b (word_end bs) bs (word_none bs e)
word_by false b bs e ih = word_joined b (word_end bs) bs (ih e)

-- where a word comes, it is the first, and those behind it are the others
pub first_word : (bs : Bytes) → is_at_blank bs ≡ false → words bs ≡ take (prefix_len (is_of sort.Word) bs) bs ∷ words (drop (prefix_len (is_of sort.Word) bs) bs)
first_word [] h = cc
first_word (b ∷ bs) h =
    let n = λ (c : Bool). cond (not c) (1 + word_end bs) 0 in
    ap (λ c. word_led c (is_at_blank bs) b (words bs)) h
    ∙ word_by (is_at_blank bs) b bs refl (first_word bs)
    ∙ ap (λ c. take (n c) (b ∷ bs) ∷ words (drop (n c) (b ∷ bs))) (sym h)

from_by : (c : Bool) (b : ℕ) (bs : Bytes) → from_blank bs ≡ drop (word_end bs) bs → cond c (b ∷ bs) (from_blank bs) ≡ drop (cond (not c) (1 + word_end bs) 0) (b ∷ bs)
from_by true b bs ih = refl
from_by false b bs ih = ih ∙ sym (drop_more (word_end bs) b bs)

from_blank_is : (bs : Bytes) → from_blank bs ≡ drop (word_end bs) bs
from_blank_is [] = refl
from_blank_is (b ∷ bs) = from_by (is_blank b) b bs (from_blank_is bs)

-- what stands behind a word that comes
pub behind_first : (bs : Bytes) → is_at_blank bs ≡ false → behind_word bs ≡ drop (prefix_len (is_of sort.Word) bs) bs
behind_first [] h = cc
behind_first (b ∷ bs) h =
    ap (λ c. cond c (behind_word bs) (from_blank bs)) h
    ∙ from_blank_is bs
    ∙ sym (drop_more (word_end bs) b bs)
    ∙ ap (λ c. drop (cond (not c) (1 + word_end bs) 0) (b ∷ bs)) (sym h)

-- ---- what the code makes of these

pub line_whole : (bs : Bytes) (n : ℕ) → bs ≢ [] → n ≡ prefix_len (is_of sort.Line) bs → lines bs ≡ take n bs ∷ lines (drop (n + 1) bs)
line_whole bs n h e = first_line bs h ∙ ap (λ n. take n bs ∷ lines (drop (n + 1) bs)) (sym e)

pub word_whole : (bs text : Bytes) (n k : ℕ) → n ≡ prefix_len (is_of sort.Blank) bs → n < length bs → text ≡ drop n bs → k ≡ prefix_len (is_of sort.Word) text → words bs ≡ take k text ∷ words (drop k text)
word_whole bs text n k e h t f =
    let p : text ≡ drop (prefix_len (is_of sort.Blank) bs) bs = t ∙ ap (λ n. drop n bs) e in
    let w : is_at_blank text ≡ false = ap is_at_blank p ∙ at_word bs (omega (arith, e, h)) in
    words_skip bs ∙ ap words (sym p) ∙ first_word text w ∙ ap (λ k. take k text ∷ words (drop k text)) (sym f)

pub behind_whole : (bs text : Bytes) (n k : ℕ) → n ≡ prefix_len (is_of sort.Blank) bs → n < length bs → text ≡ drop n bs → k ≡ prefix_len (is_of sort.Word) text → drop k text ≡ behind_word bs
behind_whole bs text n k e h t f =
    let p : text ≡ drop (prefix_len (is_of sort.Blank) bs) bs = t ∙ ap (λ n. drop n bs) e in
    let w : is_at_blank text ≡ false = ap is_at_blank p ∙ at_word bs (omega (arith, e, h)) in
    sym (behind_skip bs ∙ ap behind_word (sym p) ∙ behind_first text w ∙ ap (λ k. drop k text) (sym f))

-- the rest of a slice
pub rest_is : (xs : Bytes) (n : ℕ) → take (length xs - n) (drop n xs) ≡ drop n xs
rest_is xs n = take_all (length xs - n) (drop n xs) (omega (arith, length-drop n xs))
