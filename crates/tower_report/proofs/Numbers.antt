-- Texts of the numbers 0, 1, up to n - 1, as a loop over them puts them.
use Rattle.std.proofs.Common.{◌≡◌, ℕ, zero, suc, ◌+◌, ◌-◌, ◌<◌, ◌≤◌, List, [], ◌∷◌, ◌++◌, Option, refl, ap, sym, ◌∙◌, arith, append_assoc, append-nil}
use Rattle.std.specs.List.{flat_map}
use Rattle.std.proofs.lemmas.Grind.{flat_map-append}
use Rattle.tower_syntax.specs.Graph.{numbers_before}
use Rattle.tower_io.specs.declared.answers.Put.TheVariants.{Done, Failed}
use Rattle.tower_report.specs.Bytes.{Bytes}
use Rattle.tower_report.specs.Puts.{Puts}
use Rattle.tower_report.proofs.Puts.{Puts-then, Puts-fail, Puts-stop, Puts-same}

numbers_onto : (n : ℕ) (ks : List ℕ) → numbers_before n ks ≡ numbers_before n [] ++ ks
numbers_onto zero ks = refl
numbers_onto (suc n) ks =
    numbers_onto n (n ∷ ks) ∙ sym (append_assoc (numbers_before n []) (n ∷ []) ks) ∙ ap (λ l. l ++ ks) (sym (numbers_onto n (n ∷ [])))

numbers_more : (n : ℕ) → numbers_before (n + 1) [] ≡ numbers_before n [] ++ n ∷ []
numbers_more n = let more : n + 1 ≡ suc n = omega arith in ap (λ k. numbers_before k []) more ∙ numbers_onto n (n ∷ [])

-- fewer numbers come first
numbers_upto : (k n : ℕ) → (rest : List ℕ) × (numbers_before (k + n) [] ≡ numbers_before n [] ++ rest)
numbers_upto zero n = let same : 0 + n ≡ n = omega arith in ([], ap (λ m. numbers_before m []) same ∙ sym (append-nil (numbers_before n [])))
numbers_upto (suc k) n =
    let before = numbers_upto k n in
    let more : suc k + n ≡ (k + n) + 1 = omega arith in
    (before.0 ++ (k + n) ∷ [], ap (λ m. numbers_before m []) more ∙ numbers_more (k + n) ∙ ap (λ l. l ++ (k + n) ∷ []) before.1 ∙ append_assoc (numbers_before n []) before.0 ((k + n) ∷ []))

abbrev texts_before : (ℕ → Bytes) → ℕ → Bytes
texts_before text n = flat_map text (numbers_before n [])

texts_more : (text : ℕ → Bytes) (n : ℕ) → texts_before text n ++ text n ≡ texts_before text (n + 1)
texts_more text n =
    sym (ap (flat_map text) (numbers_more n) ∙ flat_map-append text (numbers_before n []) (n ∷ []) ∙ ap (λ t. texts_before text n ++ t) (append-nil (text n)))

texts_upto : (text : ℕ → Bytes) (i n : ℕ) → i ≤ n → (rest : Bytes) × (texts_before text i ++ rest ≡ texts_before text n)
texts_upto text i n h =
    let part = numbers_upto (n - i) i in
    let same : n - i + i ≡ n = omega arith in
    (flat_map text part.0, sym (flat_map-append text (numbers_before i []) part.0) ∙ ap (flat_map text) (sym part.1) ∙ ap (λ m. texts_before text m) same)

module _ {S : Type 0} {w : S → Option (List ℕ)} {f : S → ℕ} (text : ℕ → Bytes) (i : ℕ) where
  -- the texts of the numbers before i, and then that of i
  pub Puts-number : {a b c : S} → Puts w f a b (flat_map text (numbers_before i [])) Done → Puts w f b c (text i) Done → Puts w f a c (flat_map text (numbers_before (i + 1) [])) Done
  Puts-number before here = Puts-same (texts_more text i) (Puts-then before here)

  -- where the text of i failed, none comes after it
  pub Puts-number-part : {a b c : S} (n : ℕ) → i < n → Puts w f a b (flat_map text (numbers_before i [])) Done → Puts w f b c (text i) Failed → Puts w f a c (flat_map text (numbers_before n [])) Failed
  Puts-number-part n h before here =
      let part = texts_upto text (i + 1) n (omega arith) in
      Puts-same part.1 (Puts-stop part.0 (Puts-same (texts_more text i) (Puts-fail before here)))
