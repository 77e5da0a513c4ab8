-- A name is a word, and the name of a source finds it.
use Rattle.std.proofs.Common.{◌≡◌, ◌≢◌, ◌⊎◌, inl, inr, ◌<◌, ℕ, zero, suc, ◌+◌, List, [], ◌∷◌, map, length, cond, not, Bool, true, false, ◌&&◌, ◌||◌, nat_lt, nat_le, Some, None, refl, ap, ◌∙◌, arith, slice_index_or}
use Rattle.std.specs.Prelude.{bytes_eq}
use Rattle.std.specs.List.{AllPairs, position_or_len}
use Rattle.std.proofs.lemmas.Bool.{eqb-true, lt-ltb, leb-true}
use Rattle.std.proofs.lemmas.Slice.Eq.{bytes_eq-Decides}
use Rattle.tower_syntax.specs.Spelling.{is_lower, is_digit, is_underscore, goes_on, begins_with_letter, is_reserved, is_name}
use Rattle.tower_syntax.specs.Arch.{Arch, Source}
use Rattle.event_record.specs.Lines.{Bytes}
use Rattle.event_record.specs.Order.{source_named}
use Rattle.arch_checks.specs.Offences.{source_name}
use Rattle.declared_names.specs.Laws.{source_names}
use Rattle.run_order.proofs.Above.{above, is_word, both, and_true}

-- ---- names are words

either : (x y : Bool) → (x || y) ≡ true → (x ≡ true) ⊎ (y ≡ true)
either true y h = inl refl
either false y h = inr h

from_byte : (n b : ℕ) → 32 < n → nat_le n b ≡ true → nat_lt 32 b ≡ true
from_byte n b h k = let l = leb-true n b k in lt-ltb 32 b (omega (arith, h, l))

lower_above : (b : ℕ) → is_lower b ≡ true → nat_lt 32 b ≡ true
lower_above b h = from_byte 97 b (omega arith) (both (nat_le 97 b) (nat_le b 122) h).0

digit_above : (b : ℕ) → is_digit b ≡ true → nat_lt 32 b ≡ true
digit_above b h = from_byte 48 b (omega arith) (both (nat_le 48 b) (nat_le b 57) h).0

line_above : (b : ℕ) → is_underscore b ≡ true → nat_lt 32 b ≡ true
line_above b h = let e : b ≡ 95 = eqb-true b 95 h in lt-ltb 32 b (omega (arith, e))

next_above : (b : ℕ) (u : Bool) → (is_lower b || is_digit b || (is_underscore b && u)) ≡ true → nat_lt 32 b ≡ true
next_above b u h = elim (either (is_lower b || is_digit b) (is_underscore b && u) h) [
  | inl k ↦ elim (either (is_lower b) (is_digit b) k) [ inl l ↦ lower_above b l | inr d ↦ digit_above b d ]
  | inr l ↦ line_above b (both (is_underscore b) u l).0
]

rest_above : (u : Bool) (bs : Bytes) → goes_on u bs ≡ true → above 32 bs ≡ true
rest_above u [] h = refl
rest_above u (b ∷ bs) h =
    let p = both (is_lower b || is_digit b || (is_underscore b && not u)) (goes_on (is_underscore b) bs) h in
    and_true (nat_lt 32 b) (above 32 bs) (next_above b (not u) p.0) (rest_above (is_underscore b) bs p.1)

lettered_word : (w : Bytes) → begins_with_letter w ≡ true → is_word w ≡ true
lettered_word [] h = cc
lettered_word (b ∷ bs) h = let p = both (is_lower b) (goes_on false bs) h in and_true (nat_lt 32 b) (above 32 bs) (lower_above b p.0) (rest_above false bs p.1)

pub name_is_word : (w : Bytes) → is_name w ≡ true → is_word w ≡ true
name_is_word w h = lettered_word w (both (begins_with_letter w) (not (is_reserved w)) h).0

-- ---- names find sources

pairs_tail : {X : Type 0} (R : X → X → Type 0) (x : X) (xs : List X) → AllPairs R (x ∷ xs) → AllPairs R xs
pairs_tail R x xs h i j d less within = h (suc i) (suc j) d (omega (arith, less)) (omega (arith, within))

unequal : (a b : Bytes) (t : Bool) → bytes_eq a b ≡ t → a ≢ b → t ≡ false
unequal a b true e h = absurd (h ((bytes_eq-Decides a b).0 e))
unequal a b false e h = refl

pub length_names : (ss : List Source) → length (map (λ s. s.name) ss) ≡ length ss
length_names [] = refl
length_names (s ∷ ss) = ap suc (length_names ss)

first_named : (ss : List Source) (x : ℕ) → x < length ss → AllPairs (λ a b. a ≢ b) (map (λ s. s.name) ss) → position_or_len (λ s. bytes_eq s.name (slice_index_or (map (λ s. s.name) ss) x [])) ss ≡ x
first_named [] x within apart = absurd (omega (arith, within))
first_named (s ∷ ss) zero within apart =
    ap (λ b. cond (not b) (1 + position_or_len (λ t. bytes_eq t.name s.name) ss) 0) ((bytes_eq-Decides s.name s.name).1 refl)
first_named (s ∷ ss) (suc x) within apart =
    let ns = map (λ s. s.name) ss in
    let n = slice_index_or ns x [] in
    let short = length_names ss in
    let differ : s.name ≢ n = apart 0 (suc x) [] (omega arith) (omega (arith, within, short)) in
    ap (λ b. cond (not b) (1 + position_or_len (λ t. bytes_eq t.name n) ss) 0) (unequal s.name n (bytes_eq s.name n) refl differ)
    ∙ ap (λ k. 1 + k) (first_named ss x (omega (arith, within)) (pairs_tail (λ a b. a ≢ b) s.name ns apart))
    ∙ omega arith

pub source_found : (arch : Arch) (x : ℕ) → x < length arch.sources → AllPairs (λ a b. a ≢ b) (source_names arch) → source_named arch (source_name arch x) ≡ Some x
source_found arch x within apart =
    ap (λ n. cond (nat_lt n (length arch.sources)) (Some n) None) (first_named arch.sources x within apart)
    ∙ ap (λ b. cond b (Some x) None) (lt-ltb x (length arch.sources) within)
