-- A printed number has digits, and at least one.
use Rattle.std.proofs.Common.{◌≡◌, ◌<◌, ℕ, zero, suc, ◌+◌, ◌/◌, ◌%◌, [], ◌∷◌, Bool, true, false, ◌&&◌, ◌==◌, nat_lt, nat_le, if◌then◌else◌, refl, subst, arith, decimal, ℤ, pos, negsuc}
use Rattle.std.specs.Fmt.{digit_glyph, digits, digits_onto, signed_decimal}
use Rattle.std.proofs.lemmas.Bool.{lt-ltb, le-leb, leb-true}
use Rattle.event_record.specs.Lines.{Bytes}
use Rattle.event_record.specs.Numbers.{is_digit, are_digits}
use Rattle.run_order.proofs.Above.{above, is_word, both, and_true, above_less}

-- one digit or more
abbrev pub is_figure : Bytes → Bool
is_figure [] = false
is_figure (b ∷ bs) = is_digit b && are_digits bs

digit_by : (d : ℕ) (c : Bool) → c ≡ true → d < 10 → is_digit (if c then 48 + d else 87 + d) ≡ true
digit_by d true h k = and_true (nat_le 48 (48 + d)) (nat_le (48 + d) 57) (le-leb 48 (48 + d) (omega arith)) (le-leb (48 + d) 57 (omega (arith, k)))
digit_by d false h k = cc

glyph_is : (d : ℕ) → d < 10 → is_digit (digit_glyph false d) ≡ true
glyph_is d h = digit_by d (nat_lt d 10) (lt-ltb d 10 h) h

chosen : (c : Bool) (x y : Bytes) → is_figure x ≡ true → is_figure y ≡ true → is_figure (if c then x else y) ≡ true
chosen true x y h k = h
chosen false x y h k = k

onto_is : (k n : ℕ) (acc : Bytes) → are_digits acc ≡ true → is_figure (digits_onto (suc k) 10 false n acc) ≡ true
onto_is zero n acc h =
    let g = digit_glyph false (n % 10) in
    let more : is_figure (g ∷ acc) ≡ true = and_true (is_digit g) (are_digits acc) (glyph_is (n % 10) (omega arith)) h in
    chosen (n / 10 == 0) (g ∷ acc) (g ∷ acc) more more
onto_is (suc k) n acc h =
    let g = digit_glyph false (n % 10) in
    let more : is_figure (g ∷ acc) ≡ true = and_true (is_digit g) (are_digits acc) (glyph_is (n % 10) (omega arith)) h in
    chosen (n / 10 == 0) (g ∷ acc) (digits_onto (suc k) 10 false (n / 10) (g ∷ acc)) more (onto_is k (n / 10) (g ∷ acc) more)

digits_are : (n : ℕ) → digits_onto 64 10 false n [] ≡ digits 10 false n
unfolding digits
digits_are n = refl

pub decimal_is : (n : ℕ) → is_figure (decimal n) ≡ true
decimal_is n = subst (λ t. is_figure t ≡ true) (digits_are n) (onto_is 63 n [] refl)

pub digit_above : (b : ℕ) → is_digit b ≡ true → nat_lt 32 b ≡ true
digit_above b h = let l = leb-true 48 b (both (nat_le 48 b) (nat_le b 57) h).0 in lt-ltb 32 b (omega (arith, l))

digits_above : (bs : Bytes) → are_digits bs ≡ true → above 32 bs ≡ true
digits_above [] h = refl
digits_above (b ∷ bs) h = let p = both (is_digit b) (are_digits bs) h in and_true (nat_lt 32 b) (above 32 bs) (digit_above b p.0) (digits_above bs p.1)

pub figure_is_word : (w : Bytes) → is_figure w ≡ true → is_word w ≡ true
figure_is_word [] h = cc
figure_is_word (b ∷ bs) h = digits_above (b ∷ bs) h

pub decimal_word : (n : ℕ) → is_word (decimal n) ≡ true
decimal_word n = figure_is_word (decimal n) (decimal_is n)

figure_above : (w : Bytes) → is_figure w ≡ true → above 10 w ≡ true
figure_above [] h = refl
figure_above (b ∷ bs) h = above_less 10 32 (b ∷ bs) (omega arith) (digits_above (b ∷ bs) h)

pub decimal_above : (n : ℕ) → above 10 (decimal n) ≡ true
decimal_above n = figure_above (decimal n) (decimal_is n)

pub signed_above : (z : ℤ) → above 10 (signed_decimal z) ≡ true
signed_above (pos n) = decimal_above n
signed_above (negsuc n) = decimal_above (suc n)
