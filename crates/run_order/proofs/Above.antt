-- Bytes above a number: texts without LF, and words without a blank.
use Rattle.std.proofs.Common.{◌≡◌, ◌<◌, ◌≤◌, ℕ, List, [], ◌∷◌, ◌++◌, map, Bool, true, false, ◌&&◌, ◌||◌, eqb, nat_lt, refl, ap, ◌∙◌, arith, codes}
use Rattle.std.proofs.lemmas.Bool.{ltb-true, lt-ltb, ne_eqb}
use Rattle.tower_report.specs.Bytes.{spaced, in_brackets}
use Rattle.event_record.specs.Lines.{Bytes}

-- each byte is above n
abbrev pub above : ℕ → Bytes → Bool
above n [] = true
above n (b ∷ bs) = nat_lt n b && above n bs

-- a word has no blank
abbrev pub is_word : Bytes → Bool
is_word [] = false
is_word (b ∷ bs) = nat_lt 32 b && above 32 bs

-- texts without LF
abbrev pub are_above : List Bytes → Bool
are_above [] = true
are_above (w ∷ ws) = above 10 w && are_above ws

pub both : (x y : Bool) → (x && y) ≡ true → (x ≡ true) × (y ≡ true)
both true true h = (refl, refl)
both true false h = cc
both false y h = cc

pub and_true : (x y : Bool) → x ≡ true → y ≡ true → (x && y) ≡ true
and_true x y h g = ap (λ x. x && y) h ∙ g

pub or_false : (x y : Bool) → x ≡ false → y ≡ false → (x || y) ≡ false
or_false x y h g = ap (λ x. x || y) h ∙ g

pub other_byte : (n b : ℕ) → n < b → eqb b n ≡ false
other_byte n b h = ne_eqb b n (λ e. omega (arith, e, h))

pub above_append : (n : ℕ) (a b : Bytes) → above n a ≡ true → above n b ≡ true → above n (a ++ b) ≡ true
above_append n [] b h g = g
above_append n (x ∷ xs) b h g = let p = both (nat_lt n x) (above n xs) h in and_true (nat_lt n x) (above n (xs ++ b)) p.0 (above_append n xs b p.1 g)

pub above_less : (m n : ℕ) (a : Bytes) → m ≤ n → above n a ≡ true → above m a ≡ true
above_less m n [] h g = refl
above_less m n (x ∷ xs) h g =
    let p = both (nat_lt n x) (above n xs) g in
    let q : n < x = ltb-true n x p.0 in
    and_true (nat_lt m x) (above m xs) (lt-ltb m x (omega (arith, h, q))) (above_less m n xs h p.1)

pub word_above : (w : Bytes) → is_word w ≡ true → above 10 w ≡ true
word_above [] h = refl
word_above (b ∷ bs) h = above_less 10 32 (b ∷ bs) (omega arith) h

pub spaced_above : (ws : List Bytes) → are_above ws ≡ true → above 10 (spaced ws) ≡ true
spaced_above [] h = refl
spaced_above (w ∷ []) h = (both (above 10 w) true h).0
spaced_above (w ∷ v ∷ vs) h =
    let p = both (above 10 w) (are_above (v ∷ vs)) h in
    above_append 10 w (32 ∷ spaced (v ∷ vs)) p.0 (spaced_above (v ∷ vs) p.1)

pub bracketed_above : (ws : List Bytes) → are_above ws ≡ true → above 10 (in_brackets ws) ≡ true
bracketed_above ws h = above_append 10 (spaced ws) (codes ")") (spaced_above ws h) refl

pub each_above : {X : Type 0} (f : X → Bytes) → ((x : X) → above 10 (f x) ≡ true) → (xs : List X) → are_above (map f xs) ≡ true
each_above f h [] = refl
each_above f h (x ∷ xs) = and_true (above 10 (f x)) (are_above (map f xs)) (h x) (each_above f h xs)
