-- Numbers, and the bytes that are their text.
use Rattle.std.proofs.Common.{◌≡◌, ◌≢◌, ℕ, ◌<◌, ◌≤◌, ◌^◌, List, Bool, true, false, refl, ap, sym, ◌∙◌, subst, arith, Option, Some, None, nat_le, ◌&&◌, decimal}
use Rattle.std.specs.Prelude.{bytes_eq, MatchOption}
use Rattle.std.specs.Str.Parse.{digits_value}
use Rattle.std.proofs.lemmas.Bool.{leb-true, le-leb}
use Rattle.std.proofs.lemmas.Fmt.{decimal_is_IsNumeral}
use Rattle.std.proofs.lemmas.Slice.Eq.{bytes_eq-Decides}
use Rattle.tower_syntax.specs.Words.{IsWithin}
use Rattle.task_listing.specs.Answers.{when, number_in}

and_true : (a b : Bool) → a && b ≡ true → (a ≡ true) × (b ≡ true)
and_true true b h = (refl, h)
and_true false b h = cc

when_some : {A : Type 0} (b : Bool) (x y : A) → when b x ≡ Some y → (b ≡ true) × (x ≡ y)
when_some true x y h = let e : x ≡ y = cc in (refl, e)
when_some false x y h = cc

all_true : (a b c : Bool) → a ≡ true → b ≡ true → c ≡ true → a && b && c ≡ true
all_true true true true p q r = refl
all_true true true false p q r = cc
all_true true false c p q r = cc
all_true false b c p q r = cc

-- the number that the text is read as is in the range, and this is its text
pub number_is : (low high n : ℕ) (w : List ℕ) → number_in low high w ≡ Some n → IsWithin low high n × (w ≡ decimal n)
number_is low high n w h =
    let v : ℕ = digits_value 10 w in
    let a = when_some (nat_le low v && nat_le v high && bytes_eq (decimal v) w) v n h in
    let b = and_true (nat_le low v && nat_le v high) (bytes_eq (decimal v) w) a.0 in
    let c = and_true (nat_le low v) (nat_le v high) b.0 in
    let e : decimal v ≡ w = (bytes_eq-Decides (decimal v) w).0 b.1 in
    let l : low ≤ v = leb-true low v c.0 in
    let k : v ≤ high = leb-true v high c.1 in
    subst (λ n. IsWithin low high n × (w ≡ decimal n)) a.1 ((l, k), sym e)

-- the text of a number of the range is read as this number
pub number_of : (low high n : ℕ) (w : List ℕ) → n < 2 ^ 64 → IsWithin low high n → w ≡ decimal n → number_in low high w ≡ Some n
number_of low high n w small h e =
    let v : digits_value 10 w ≡ n = ap (digits_value 10) e ∙ (decimal_is_IsNumeral n small).1 in
    let l : nat_le low (digits_value 10 w) ≡ true = ap (nat_le low) v ∙ le-leb low n h.0 in
    let k : nat_le (digits_value 10 w) high ≡ true = ap (λ v. nat_le v high) v ∙ le-leb n high h.1 in
    let q : bytes_eq (decimal (digits_value 10 w)) w ≡ true = (bytes_eq-Decides (decimal (digits_value 10 w)) w).1 (ap decimal v ∙ sym e) in
    ap (λ b. when b (digits_value 10 w)) (all_true _ _ _ l k q) ∙ ap Some v

absent_by : (low high : ℕ) (w : List ℕ) (o : Option ℕ) → number_in low high w ≡ o → ((n : ℕ) → low ≤ n → n ≤ high → w ≢ decimal n) → o ≡ None
absent_by low high w None e h = refl
absent_by low high w (Some n) e h = let k = number_is low high n w e in absurd (h n k.0.0 k.0.1 k.1)

-- a text of no number of the range is read as none
pub number_absent : (low high : ℕ) (w : List ℕ) → ((n : ℕ) → low ≤ n → n ≤ high → w ≢ decimal n) → number_in low high w ≡ None
number_absent low high w h = absent_by low high w (number_in low high w) refl h

-- what is told of a number within bounds says what it is
pub within_is : (low high : ℕ) (w : List ℕ) (r : Option ℕ) → high < 2 ^ 64 → MatchOption r ((n : ℕ) → low ≤ n → n ≤ high → w ≢ decimal n) (λ n. w ≡ decimal n) → MatchOption r (Unit {0}) (λ n. low ≤ n) → MatchOption r (Unit {0}) (λ n. n ≤ high) → r ≡ number_in low high w
within_is low high w None s h l k = sym (number_absent low high w h)
within_is low high w (Some n) s h l k = let small : n < 2 ^ 64 = omega (arith, s, k) in sym (number_of low high n w small (l, k) h)
