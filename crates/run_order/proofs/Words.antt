-- Lines that are made of words, read again as lines and words.
use Rattle.std.proofs.Common.{◌≡◌, ◌<◌, ℕ, List, [], ◌∷◌, ◌++◌, Bool, true, false, ◌&&◌, ◌||◌, eqb, nat_lt, refl, ap, sym, ◌∙◌, arith, append-nil}
use Rattle.std.proofs.lemmas.Bool.{ltb-true}
use Rattle.tower_report.specs.Bytes.{spaced}
use Rattle.event_record.specs.Lines.{Bytes, lines, line_led, led_by, words, word_led, is_blank, is_at_blank}
use Rattle.run_order.proofs.Above.{above, is_word, both, other_byte}

-- a text without LF before one is a line
pub line_ended : (t rest : Bytes) → above 10 t ≡ true → lines (t ++ 10 ∷ rest) ≡ t ∷ lines rest
line_ended [] rest h = refl
line_ended (b ∷ bs) rest h =
    let p = both (nat_lt 10 b) (above 10 bs) h in
    ap (λ c. line_led c b (lines (bs ++ 10 ∷ rest))) (other_byte 10 b (ltb-true 10 b p.0)) ∙ ap (led_by b) (line_ended bs rest p.1)

none_of : (p q r s : Bool) → p ≡ false → q ≡ false → r ≡ false → s ≡ false → (p || q || r || s) ≡ false
none_of p q r s a b c d = ap (λ p. p || q || r || s) a ∙ ap (λ q. q || r || s) b ∙ ap (λ r. r || s) c ∙ d

not_blank : (b : ℕ) → nat_lt 32 b ≡ true → is_blank b ≡ false
not_blank b h =
    let p : 32 < b = ltb-true 32 b h in
    none_of (eqb b 0x20) (eqb b 0x09) (eqb b 0x0A) (eqb b 0x0D)
    (other_byte 0x20 b p) (other_byte 0x09 b (omega (arith, p))) (other_byte 0x0A b (omega (arith, p))) (other_byte 0x0D b (omega (arith, p)))

-- a word before a blank or the end is the first word
word_first : (b : ℕ) (bs t : Bytes) → nat_lt 32 b ≡ true → above 32 bs ≡ true → is_at_blank t ≡ true → words (b ∷ (bs ++ t)) ≡ (b ∷ bs) ∷ words t
word_first b [] t h g e = ap (λ c. word_led c (is_at_blank t) b (words t)) (not_blank b h) ∙ ap (λ c. word_led false c b (words t)) e
word_first b (c ∷ cs) t h g e =
    let p = both (nat_lt 32 c) (above 32 cs) g in
    ap (λ x. word_led x (is_blank c) b (words (c ∷ (cs ++ t)))) (not_blank b h)
    ∙ ap (λ x. word_led false x b (words (c ∷ (cs ++ t)))) (not_blank c p.0)
    ∙ ap (led_by b) (word_first c cs t p.0 p.1 e)

-- the first word of a line of several, and of one
pub first_of_line : (w v : Bytes) (vs : List Bytes) → is_word w ≡ true → words (spaced (w ∷ v ∷ vs)) ≡ w ∷ words (spaced (v ∷ vs))
first_of_line [] v vs h = cc
first_of_line (b ∷ bs) v vs h = let p = both (nat_lt 32 b) (above 32 bs) h in word_first b bs (32 ∷ spaced (v ∷ vs)) p.0 p.1 refl

pub last_of_line : (w : Bytes) → is_word w ≡ true → words (spaced (w ∷ [])) ≡ w ∷ []
last_of_line [] h = cc
last_of_line (b ∷ bs) h = let p = both (nat_lt 32 b) (above 32 bs) h in ap words (sym (append-nil (b ∷ bs))) ∙ word_first b bs [] p.0 p.1 refl

abbrev pub are_words : List Bytes → Bool
are_words [] = true
are_words (w ∷ ws) = is_word w && are_words ws

-- a line of words has these words
pub words_are : (ws : List Bytes) → are_words ws ≡ true → words (spaced ws) ≡ ws
words_are [] h = refl
words_are (w ∷ []) h = last_of_line w (both (is_word w) true h).0
words_are (w ∷ v ∷ vs) h =
    let p = both (is_word w) (are_words (v ∷ vs)) h in
    first_of_line w v vs p.0 ∙ ap (λ ws. w ∷ ws) (words_are (v ∷ vs) p.1)
