-- The numbers of literals, and the bytes that are their text.
use Rattle.std.proofs.Common.{◌≡◌, ◌≢◌, ℕ, zero, suc, ◌+◌, ◌<◌, ◌≤◌, ◌^◌, ◌-◌, ℤ, pos, negsuc, neg_ℤ, List, [], ◌∷◌, length, Bool, true, false, cond, refl, ap, sym, ◌∙◌, subst, arith, Option, Some, None, eqb, decimal}
use Rattle.std.proofs.lemmas.Bool.{eqb-true}
use Rattle.std.proofs.lemmas.Int.{ints}
use Rattle.std.proofs.lemmas.Fmt.{decimal_is_IsNumeral}
use Rattle.std.specs.Fmt.{signed_decimal}
use Rattle.std.specs.Str.Parse.{AllDigits}
use Rattle.tower_syntax.specs.Words.{IsWithin, IsLiteral}
use Rattle.tower_reader.specs.Words.{number_in, negated, unsigned, literal_in}
use Rattle.tower_reader.proofs.Numbers.{number_is, number_of}

-- what a text is that is read as a literal
record Says (z : ℤ) (w : List ℕ) : Type 0 where
  within : IsLiteral z
  text : w ≡ signed_decimal z

minus_by : (n : ℕ) (bs : List ℕ) (z : ℤ) → neg_ℤ (pos n) ≡ z → IsWithin 1 (2 ^ 63) n → bs ≡ decimal n → Says z (45 ∷ bs)
minus_by zero bs z e h d = absurd (omega (arith, h.0))
minus_by (suc m) bs z e h d = subst (λ z. Says z (45 ∷ bs)) e (record { within = (omega (arith, ints, h.1), omega (arith, ints)); text = ap (λ bs. 45 ∷ bs) d })

minus_is : (o : Option ℕ) (bs : List ℕ) (z : ℤ) → number_in 1 (2 ^ 63) bs ≡ o → negated o ≡ Some z → Says z (45 ∷ bs)
minus_is None bs z e h = cc
minus_is (Some n) bs z e h =
    let k = number_is 1 (2 ^ 63) n bs e in
    let q : neg_ℤ (pos n) ≡ z = cc in
    minus_by n bs z q k.0 k.1

plain_is : (o : Option ℕ) (w : List ℕ) (z : ℤ) → number_in 0 (2 ^ 64 - 1) w ≡ o → unsigned o ≡ Some z → Says z w
plain_is None w z e h = cc
plain_is (Some n) w z e h =
    let k = number_is 0 (2 ^ 64 - 1) n w e in
    let q : pos n ≡ z = cc in
    subst (λ z. Says z w) q (record { within = (omega (arith, ints), omega (arith, ints, k.0.1)); text = k.1 })

by_sign : (c : Bool) (b : ℕ) (bs : List ℕ) (z : ℤ) → eqb b 45 ≡ c → cond c (negated (number_in 1 (2 ^ 63) bs)) (unsigned (number_in 0 (2 ^ 64 - 1) (b ∷ bs))) ≡ Some z → Says z (b ∷ bs)
by_sign true b bs z e h = subst (λ b. Says z (b ∷ bs)) (sym (eqb-true b 45 e)) (minus_is (number_in 1 (2 ^ 63) bs) bs z refl h)
by_sign false b bs z e h = plain_is (number_in 0 (2 ^ 64 - 1) (b ∷ bs)) (b ∷ bs) z refl h

says : (w : List ℕ) (z : ℤ) → literal_in w ≡ Some z → Says z w
says [] z h = cc
says (b ∷ bs) z h = by_sign (eqb b 45) b bs z refl h

pub literal_is : (z : ℤ) (w : List ℕ) → literal_in w ≡ Some z → IsLiteral z × (w ≡ signed_decimal z)
literal_is z w h = let k = says w z h in (k.within, k.text)

plain_by : (c : Bool) (b : ℕ) (bs : List ℕ) (n : ℕ) → eqb b 45 ≡ c → AllDigits 10 (b ∷ bs) → number_in 0 (2 ^ 64 - 1) (b ∷ bs) ≡ Some n → cond c (negated (number_in 1 (2 ^ 63) bs)) (unsigned (number_in 0 (2 ^ 64 - 1) (b ∷ bs))) ≡ Some (pos n)
plain_by true b bs n e d h = let k : AllDigits 10 (45 ∷ bs) = subst (λ b. AllDigits 10 (b ∷ bs)) (eqb-true b 45 e) d in absurd (omega (arith, k.0))
plain_by false b bs n e d h = ap unsigned h

plain_of : (w : List ℕ) (n : ℕ) → AllDigits 10 w → number_in 0 (2 ^ 64 - 1) w ≡ Some n → w ≢ [] → literal_in w ≡ Some (pos n)
plain_of [] n d h f = absurd (f refl)
plain_of (b ∷ bs) n d h f = plain_by (eqb b 45) b bs n refl d h

no_digits : (n : ℕ) (w : List ℕ) → w ≡ decimal n → 0 < length (decimal n) → w ≢ []
no_digits n w e l h = omega (arith, l, ap length (sym e ∙ h))

pub literal_of : (z : ℤ) (w : List ℕ) → IsLiteral z → w ≡ signed_decimal z → literal_in w ≡ Some z
literal_of (pos n) w h e =
    let small : n < 2 ^ 64 = omega (arith, ints, h.1) in
    let d = decimal_is_IsNumeral n small in
    plain_of w n (subst (AllDigits 10) (sym e) d.0.1) (number_of 0 (2 ^ 64 - 1) n w small (omega arith, omega arith) e) (no_digits n w e d.0.0)
literal_of (negsuc m) w h e =
    let low : m + 1 ≤ 2 ^ 63 = omega (arith, ints, h.0) in
    ap literal_in e ∙ ap negated (number_of 1 (2 ^ 63) (suc m) (decimal (suc m)) (omega arith) (omega arith, omega arith) refl)
