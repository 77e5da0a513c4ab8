-- Lines, as they are put.
use Rattle.std.proofs.Common.{◌≡◌, ℕ, zero, suc, ◌+◌, ◌<◌, ◌≤◌, min, List, [], ◌∷◌, ◌++◌, Option, length, take, drop, get_or, sym, ap, ◌∙◌, arith, append_assoc, append-nil, take-append-drop}
use Rattle.std.specs.List.{flat_map, zip}
use Rattle.std.proofs.lemmas.Grind.{flat_map-append}
use Rattle.std.proofs.lemmas.List.{take_more, take_all}
use Rattle.tower_io.specs.declared.answers.Put.TheVariants.{Done, Failed}
use Rattle.tower_report.specs.Bytes.{Bytes, spaced, line, head}
use Rattle.tower_report.specs.Puts.{Puts}
use Rattle.tower_report.proofs.Puts.{Puts-then, Puts-fail, Puts-stop, Puts-same}
use Rattle.tower_report.proofs.Spaced.{spaced_push}

-- ---- a line whose last word is a value, after words that are not none

headed : (words : List Bytes) (text : Bytes) → 0 < length words → (head words ++ text) ++ 10 ∷ [] ≡ line (words ++ text ∷ [])
headed [] text h = absurd (omega arith)
headed (x ∷ xs) text h = ap (λ t. t ++ 10 ∷ []) (append_assoc (spaced (x ∷ xs)) (32 ∷ []) text ∙ sym (spaced_push (x ∷ xs) text))

module _ {S : Type 0} {w : S → Option (List ℕ)} {f : S → ℕ} (words : List Bytes) (text : Bytes) (h : 0 < length words) where
  pub Puts-unheaded : {a b : S} → Puts w f a b (head words) Failed → Puts w f a b (line (words ++ text ∷ [])) Failed
  Puts-unheaded first = Puts-same (headed words text h) (Puts-stop (10 ∷ []) (Puts-stop text first))

  pub Puts-unvalued : {a b c : S} → Puts w f a b (head words) Done → Puts w f b c text Failed → Puts w f a c (line (words ++ text ∷ [])) Failed
  Puts-unvalued first value = Puts-same (headed words text h) (Puts-stop (10 ∷ []) (Puts-fail first value))

  pub Puts-unended : {a b c d : S} → Puts w f a b (head words) Done → Puts w f b c text Done → Puts w f c d (10 ∷ []) Failed → Puts w f a d (line (words ++ text ∷ [])) Failed
  Puts-unended first value end = Puts-same (headed words text h) (Puts-fail (Puts-then first value) end)

  pub Puts-value-line : {a b c d : S} → Puts w f a b (head words) Done → Puts w f b c text Done → Puts w f c d (10 ∷ []) Done → Puts w f a d (line (words ++ text ∷ [])) Done
  Puts-value-line first value end = Puts-same (headed words text h) (Puts-then (Puts-then first value) end)

-- ---- the text of each item of a list

more_rows : {X : Type 0} (text : X → Bytes) (xs : List X) (i : ℕ) (x : X) → i < length xs → get_or xs i x ≡ x → flat_map text (take i xs) ++ text x ≡ flat_map text (take (i + 1) xs)
more_rows text xs i x h at =
    let taken : take (i + 1) xs ≡ take i xs ++ x ∷ [] = take_more xs i x h ∙ ap (λ y. take i xs ++ y ∷ []) at in
    sym (ap (flat_map text) taken ∙ flat_map-append text (take i xs) (x ∷ []) ∙ ap (λ t. flat_map text (take i xs) ++ t) (append-nil (text x)))

module _ {S X : Type 0} {w : S → Option (List ℕ)} {f : S → ℕ} (text : X → Bytes) (xs : List X) (i : ℕ) where
  -- the texts before this one, and then this one
  pub Puts-row : {a b c : S} (x : X) → i < length xs → get_or xs i x ≡ x → Puts w f a b (flat_map text (take i xs)) Done → Puts w f b c (text x) Done → Puts w f a c (flat_map text (take (i + 1) xs)) Done
  Puts-row x h at before here = Puts-same (more_rows text xs i x h at) (Puts-then before here)

  -- where a text failed, none comes after it
  pub Puts-row-part : {a b c : S} (x : X) → i < length xs → get_or xs i x ≡ x → Puts w f a b (flat_map text (take i xs)) Done → Puts w f b c (text x) Failed → Puts w f a c (flat_map text xs) Failed
  Puts-row-part x h at before here =
      let whole : flat_map text (take (i + 1) xs) ++ flat_map text (drop (i + 1) xs) ≡ flat_map text xs =
      sym (flat_map-append text (take (i + 1) xs) (drop (i + 1) xs)) ∙ ap (flat_map text) (take-append-drop (i + 1) xs) in
      Puts-same whole (Puts-stop (flat_map text (drop (i + 1) xs)) (Puts-same (more_rows text xs i x h at) (Puts-fail before here)))

  -- the loop over all texts has ended
  pub Puts-rows : {a b : S} → length xs ≤ i → Puts w f a b (flat_map text (take i xs)) Done → Puts w f a b (flat_map text xs) Done
  Puts-rows h put = Puts-same (ap (flat_map text) (take_all i xs h)) put

-- ---- two lists side by side

pub zip_length : {A B : Type 0} (xs : List A) (ys : List B) → length (zip xs ys) ≡ min (length xs) (length ys)
zip_length [] ys = omega arith
zip_length (x ∷ xs) [] = omega arith
zip_length (x ∷ xs) (y ∷ ys) = omega (arith, zip_length xs ys)

pub zip_at : {A B : Type 0} (xs : List A) (ys : List B) (i : ℕ) (x : A) (y : B) → i < length xs → i < length ys → get_or xs i x ≡ x → get_or ys i y ≡ y → get_or (zip xs ys) i (x, y) ≡ (x, y)
zip_at [] ys i x y h k p q = absurd (omega arith)
zip_at (a ∷ more) [] i x y h k p q = absurd (omega arith)
zip_at (a ∷ more) (b ∷ bs) zero x y h k p q = cc
zip_at (a ∷ more) (b ∷ bs) (suc i) x y h k p q = zip_at more bs i x y (omega arith) (omega arith) p q
