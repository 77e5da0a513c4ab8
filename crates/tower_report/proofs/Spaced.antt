-- Texts with one blank between, as they are put item by item.
use Rattle.std.proofs.Common.{◌≡◌, ℕ, ◌+◌, ◌<◌, ◌≤◌, List, [], ◌∷◌, ◌++◌, Option, length, take, drop, get_or, refl, sym, ap, ◌∙◌, arith, append_assoc, append-nil, take-append-drop}
use Rattle.std.proofs.lemmas.List.{take_more, take_all, length-take-le}
use Rattle.tower_io.specs.declared.answers.Put.TheVariants.{Done, Failed}
use Rattle.tower_report.specs.Bytes.{Bytes, spaced, separator}
use Rattle.tower_report.specs.Puts.{Puts}
use Rattle.tower_report.proofs.Puts.{Puts-then, Puts-fail, Puts-stop, Puts-same}

-- one more item, after its blank
pub spaced_push : (xs : List Bytes) (x : Bytes) → spaced (xs ++ x ∷ []) ≡ spaced xs ++ (separator (length xs) ++ x)
spaced_push [] x = refl
spaced_push (y ∷ []) x = refl
spaced_push (y ∷ z ∷ zs) x = ap (λ t. y ++ (32 ∷ t)) (spaced_push (z ∷ zs) x) ∙ sym (append_assoc y (32 ∷ spaced (z ∷ zs)) (32 ∷ x))

-- the first items come first
spaced_append : (xs ys : List Bytes) → (rest : Bytes) × (spaced (xs ++ ys) ≡ spaced xs ++ rest)
spaced_append [] ys = (spaced ys, refl)
spaced_append (x ∷ []) [] = ([], sym (append-nil x))
spaced_append (x ∷ []) (y ∷ ys) = (32 ∷ spaced (y ∷ ys), refl)
spaced_append (x ∷ z ∷ zs) ys =
    let more = spaced_append (z ∷ zs) ys in
    (more.0, ap (λ t. x ++ (32 ∷ t)) more.1 ∙ sym (append_assoc x (32 ∷ spaced (z ∷ zs)) more.0))

spaced_more : (texts : List Bytes) (i : ℕ) → i < length texts → spaced (take (i + 1) texts) ≡ spaced (take i texts) ++ (separator i ++ get_or texts i [])
spaced_more texts i h =
    let n : length (take i texts) ≡ i = length-take-le i texts (omega arith) in
    ap spaced (take_more texts i [] h) ∙ spaced_push (take i texts) (get_or texts i []) ∙ ap (λ k. spaced (take i texts) ++ (separator k ++ get_or texts i [])) n

module _ {S : Type 0} {w : S → Option (List ℕ)} {f : S → ℕ} where
  -- the items before this one, and then this one after its blank
  pub Puts-item : {a b c : S} (texts : List Bytes) (i : ℕ) (x : Bytes) → i < length texts → get_or texts i [] ≡ x → Puts w f a b (spaced (take i texts)) Done → Puts w f b c (separator i ++ x) Done → Puts w f a c (spaced (take (i + 1) texts)) Done
  Puts-item texts i x h at before here =
      Puts-same (ap (λ t. spaced (take i texts) ++ (separator i ++ t)) (sym at) ∙ sym (spaced_more texts i h)) (Puts-then before here)

  -- where an item or the blank before it failed, none comes after it
  pub Puts-part : {a b c : S} (texts : List Bytes) (i : ℕ) (x : Bytes) → i < length texts → get_or texts i [] ≡ x → Puts w f a b (spaced (take i texts)) Done → Puts w f b c (separator i ++ x) Failed → Puts w f a c (spaced texts) Failed
  Puts-part texts i x h at before here =
      let all = spaced_append (take (i + 1) texts) (drop (i + 1) texts) in
      let whole : spaced texts ≡ spaced (take (i + 1) texts) ++ all.0 = ap spaced (sym (take-append-drop (i + 1) texts)) ∙ all.1 in
      let more : spaced (take i texts) ++ (separator i ++ x) ≡ spaced (take (i + 1) texts) = ap (λ t. spaced (take i texts) ++ (separator i ++ t)) (sym at) ∙ sym (spaced_more texts i h) in
      Puts-same (sym whole) (Puts-stop all.0 (Puts-same more (Puts-fail before here)))

  -- the loop over all items has ended
  pub Puts-items : {a b : S} (texts : List Bytes) (i : ℕ) → length texts ≤ i → Puts w f a b (spaced (take i texts)) Done → Puts w f a b (spaced texts) Done
  Puts-items texts i h put = Puts-same (ap spaced (take_all i texts h)) put
