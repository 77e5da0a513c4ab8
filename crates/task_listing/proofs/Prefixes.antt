-- How far a run of bytes goes on.
use Rattle.std.proofs.Common.{◌≡◌, ◌∙◌, ◌<◌, ◌≤◌, ℕ, suc, ◌+◌, ◌-◌, List, [], ◌∷◌, length, take, drop, get_or, Bool, true, false, not, cond, eqb, refl, sym, ap, arith, length-drop}
use Rattle.std.specs.List.{prefix_len, onto_first}
use Rattle.std.proofs.lemmas.List.{take_all}
use Rattle.std.proofs.lemmas.List.Sums.{prefix_len-drop_yes, prefix_len-drop_no, prefix_len-drop_all, prefix_len-le-length}
use Rattle.task_listing.specs.Lines.{Bytes, whole_lines, behind_lines, behind_led, line_led, led_by, words}
use Rattle.task_listing.specs.FewWords.{is_other}

abbrev Goes : (ℕ → Bool) → List ℕ → ℕ → Type 0
Goes p xs i = prefix_len p xs ≡ i + prefix_len p (drop i xs)

pub run_stops : (p : ℕ → Bool) (xs : List ℕ) (i : ℕ) → i < length xs → p (get_or xs i 0) ≡ false → Goes p xs i → i ≡ prefix_len p xs
run_stops p xs i h f e = omega (arith, e, prefix_len-drop_no p xs i 0 h f)

pub run_goes : (p : ℕ → Bool) (xs : List ℕ) (i : ℕ) → i < length xs → p (get_or xs i 0) ≡ true → Goes p xs i → Goes p xs (i + 1)
run_goes p xs i h t e = omega (arith, e, prefix_len-drop_yes p xs i 0 h t)

pub run_ends : (p : ℕ → Bool) (xs : List ℕ) (i : ℕ) → length xs ≤ i → Goes p xs i → length xs ≡ prefix_len p xs
run_ends p xs i h e = omega (arith, e, prefix_len-drop_all p xs i h, prefix_len-le-length p xs)

-- ---- a text up to the first byte of a value

take_on : (m b : ℕ) (bs : Bytes) → take (1 + m) (b ∷ bs) ≡ b ∷ take m bs
take_on m b bs = let e : 1 + m ≡ suc m = omega arith in ap (λ k. take k (b ∷ bs)) e

drop_on : (m b : ℕ) (bs : Bytes) → drop (1 + m + 1) (b ∷ bs) ≡ drop (m + 1) bs
drop_on m b bs = let e : 1 + m + 1 ≡ suc (m + 1) = omega arith in ap (λ k. drop k (b ∷ bs)) e

abbrev len : ℕ → Bytes → ℕ
len c bs = prefix_len (is_other c) bs

abbrev len_by : ℕ → Bool → Bytes → ℕ
len_by c t bs = cond (not t) (1 + len c bs) 0

words_by : (t : Bool) (b : ℕ) (bs : Bytes) → (len 32 bs < length bs → words bs ≡ take (len 32 bs) bs ∷ words (drop (len 32 bs + 1) bs)) → len_by 32 t bs < length (b ∷ bs)
    → cond t ([] ∷ words bs) (onto_first b (words bs)) ≡ take (len_by 32 t bs) (b ∷ bs) ∷ words (drop (len_by 32 t bs + 1) (b ∷ bs))
words_by true b bs ih h = refl
words_by false b bs ih h =
    ap (onto_first b) (ih (omega (arith, h)))
    ∙ ap (λ l. l ∷ words (drop (len 32 bs + 1) bs)) (sym (take_on (len 32 bs) b bs))
    ∙ ap (λ r. take (1 + len 32 bs) (b ∷ bs) ∷ words r) (sym (drop_on (len 32 bs) b bs))

words_more : (bs : Bytes) → len 32 bs < length bs → words bs ≡ take (len 32 bs) bs ∷ words (drop (len 32 bs + 1) bs)
words_more [] h = absurd (omega (arith, h))
words_more (b ∷ bs) h = words_by (eqb b 32) b bs (words_more bs) h

none_by : (t : Bool) (b : ℕ) (bs : Bytes) → (length bs ≤ len 32 bs → words bs ≡ bs ∷ []) → length (b ∷ bs) ≤ len_by 32 t bs → cond t ([] ∷ words bs) (onto_first b (words bs)) ≡ (b ∷ bs) ∷ []
none_by true b bs ih h = absurd (omega (arith, h))
none_by false b bs ih h = ap (onto_first b) (ih (omega (arith, h)))

words_none : (bs : Bytes) → length bs ≤ len 32 bs → words bs ≡ bs ∷ []
words_none [] h = refl
words_none (b ∷ bs) h = none_by (eqb b 32) b bs (words_none bs) h

pub words_split : (bs : Bytes) (n : ℕ) → n ≡ prefix_len (is_other 32) bs → n < length bs → words bs ≡ take n bs ∷ words (drop (n + 1) bs)
words_split bs n e h = words_more bs (omega (arith, e, h)) ∙ ap (λ n. take n bs ∷ words (drop (n + 1) bs)) (sym e)

pub words_whole : (bs : Bytes) (n : ℕ) → n ≡ prefix_len (is_other 32) bs → length bs ≤ n → words bs ≡ take n bs ∷ []
words_whole bs n e h = words_none bs (omega (arith, e, h)) ∙ ap (λ l. l ∷ []) (sym (take_all n bs h))

-- ---- lines

whole_by : (t : Bool) (b : ℕ) (bs : Bytes) → (len 10 bs < length bs → whole_lines bs ≡ take (len 10 bs) bs ∷ whole_lines (drop (len 10 bs + 1) bs)) → len_by 10 t bs < length (b ∷ bs)
    → line_led t b (whole_lines bs) ≡ take (len_by 10 t bs) (b ∷ bs) ∷ whole_lines (drop (len_by 10 t bs + 1) (b ∷ bs))
whole_by true b bs ih h = refl
whole_by false b bs ih h =
    ap (led_by b) (ih (omega (arith, h)))
    ∙ ap (λ l. l ∷ whole_lines (drop (len 10 bs + 1) bs)) (sym (take_on (len 10 bs) b bs))
    ∙ ap (λ r. take (1 + len 10 bs) (b ∷ bs) ∷ whole_lines r) (sym (drop_on (len 10 bs) b bs))

whole_more : (bs : Bytes) → len 10 bs < length bs → whole_lines bs ≡ take (len 10 bs) bs ∷ whole_lines (drop (len 10 bs + 1) bs)
whole_more [] h = absurd (omega (arith, h))
whole_more (b ∷ bs) h = whole_by (eqb b 10) b bs (whole_more bs) h

unled_by : (t : Bool) (b : ℕ) (bs : Bytes) → (length bs ≤ len 10 bs → whole_lines bs ≡ []) → length (b ∷ bs) ≤ len_by 10 t bs → line_led t b (whole_lines bs) ≡ []
unled_by true b bs ih h = absurd (omega (arith, h))
unled_by false b bs ih h = ap (led_by b) (ih (omega (arith, h)))

whole_none : (bs : Bytes) → length bs ≤ len 10 bs → whole_lines bs ≡ []
whole_none [] h = refl
whole_none (b ∷ bs) h = unled_by (eqb b 10) b bs (whole_none bs) h

behind_by : (t : Bool) (b : ℕ) (bs : Bytes) → (len 10 bs < length bs → behind_lines bs ≡ behind_lines (drop (len 10 bs + 1) bs)) → len_by 10 t bs < length (b ∷ bs)
    → behind_led b bs (line_led t b (whole_lines bs)) (behind_lines bs) ≡ behind_lines (drop (len_by 10 t bs + 1) (b ∷ bs))
behind_by true b bs ih h = refl
behind_by false b bs ih h =
    let k : len 10 bs < length bs = omega (arith, h) in
    ap (λ ls. behind_led b bs (led_by b ls) (behind_lines bs)) (whole_more bs k) ∙ ih k ∙ ap behind_lines (sym (drop_on (len 10 bs) b bs))

behind_more : (bs : Bytes) → len 10 bs < length bs → behind_lines bs ≡ behind_lines (drop (len 10 bs + 1) bs)
behind_more [] h = absurd (omega (arith, h))
behind_more (b ∷ bs) h = behind_by (eqb b 10) b bs (behind_more bs) h

behind_none : (bs : Bytes) → length bs ≤ len 10 bs → behind_lines bs ≡ bs
behind_none [] h = refl
behind_none (b ∷ bs) h = ap (λ ls. behind_led b bs ls (behind_lines bs)) (whole_none (b ∷ bs) h)

-- what the bytes up to the first LF are
pub first_line : (bs : Bytes) (n : ℕ) → n ≡ prefix_len (is_other 10) bs → n < length bs → whole_lines bs ≡ take n bs ∷ whole_lines (drop (n + 1) bs)
first_line bs n e h = whole_more bs (omega (arith, e, h)) ∙ ap (λ n. take n bs ∷ whole_lines (drop (n + 1) bs)) (sym e)

pub same_behind : (bs : Bytes) (n : ℕ) → n ≡ prefix_len (is_other 10) bs → n < length bs → behind_lines bs ≡ behind_lines (drop (n + 1) bs)
same_behind bs n e h = behind_more bs (omega (arith, e, h)) ∙ ap (λ n. behind_lines (drop (n + 1) bs)) (sym e)

pub no_line : (bs : Bytes) (n : ℕ) → n ≡ prefix_len (is_other 10) bs → length bs ≤ n → (whole_lines bs ≡ []) × (behind_lines bs ≡ bs)
no_line bs n e h = (whole_none bs (omega (arith, e, h)), behind_none bs (omega (arith, e, h)))

-- the rest of a slice
pub rest_is : (xs : Bytes) (n : ℕ) → take (length xs - n) (drop n xs) ≡ drop n xs
rest_is xs n = take_all (length xs - n) (drop n xs) (omega (arith, length-drop n xs))
