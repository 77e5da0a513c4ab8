-- Texts of parts: words that are known under other names, and six texts one after another.
use Rattle.std.proofs.Common.{◌≡◌, ℕ, List, [], ◌∷◌, ◌++◌, Option, ap, ◌∙◌}
use Rattle.tower_io.specs.declared.answers.Put.TheVariants.{Done, Failed}
use Rattle.tower_report.specs.Bytes.{Bytes, line}
use Rattle.tower_report.specs.Puts.{Puts}
use Rattle.tower_report.proofs.Puts.{Puts-then, Puts-fail, Puts-stop}

pub same_two : (ws : List Bytes) (a b x y : Bytes) → a ≡ x → b ≡ y → line (ws ++ a ∷ b ∷ []) ≡ line (ws ++ x ∷ y ∷ [])
same_two ws a b x y p q = ap (λ t. line (ws ++ t ∷ b ∷ [])) p ∙ ap (λ t. line (ws ++ x ∷ t ∷ [])) q

pub same_three : (ws : List Bytes) (a b c x y z : Bytes) → a ≡ x → b ≡ y → c ≡ z → line (ws ++ a ∷ b ∷ c ∷ []) ≡ line (ws ++ x ∷ y ∷ z ∷ [])
same_three ws a b c x y z p q r = ap (λ t. line (ws ++ t ∷ b ∷ c ∷ [])) p ∙ ap (λ t. line (ws ++ x ∷ t ∷ c ∷ [])) q ∙ ap (λ t. line (ws ++ x ∷ y ∷ t ∷ [])) r

pub same_four : (ws : List Bytes) (a b c d x y z u : Bytes) → a ≡ x → b ≡ y → c ≡ z → d ≡ u → line (ws ++ a ∷ b ∷ c ∷ d ∷ []) ≡ line (ws ++ x ∷ y ∷ z ∷ u ∷ [])
same_four ws a b c d x y z u p q r s =
    ap (λ t. line (ws ++ t ∷ b ∷ c ∷ d ∷ [])) p ∙ ap (λ t. line (ws ++ x ∷ t ∷ c ∷ d ∷ [])) q
    ∙ ap (λ t. line (ws ++ x ∷ y ∷ t ∷ d ∷ [])) r ∙ ap (λ t. line (ws ++ x ∷ y ∷ z ∷ t ∷ [])) s

abbrev six : Bytes → Bytes → Bytes → Bytes → Bytes → Bytes → Bytes
six t₁ t₂ t₃ t₄ t₅ t₆ = t₁ ++ t₂ ++ t₃ ++ t₄ ++ t₅ ++ t₆

-- six texts, as far as they were put
module _ {S : Type 0} {w : S → Option (List ℕ)} {f : S → ℕ} (t₁ t₂ t₃ t₄ t₅ t₆ : Bytes) where
  pub fails_at_1 : {a b : S} → Puts w f a b t₁ Failed → Puts w f a b (six t₁ t₂ t₃ t₄ t₅ t₆) Failed
  fails_at_1 p = Puts-stop t₆ (Puts-stop t₅ (Puts-stop t₄ (Puts-stop t₃ (Puts-stop t₂ p))))

  pub fails_at_2 : {a b c : S} → Puts w f a b t₁ Done → Puts w f b c t₂ Failed → Puts w f a c (six t₁ t₂ t₃ t₄ t₅ t₆) Failed
  fails_at_2 p q = Puts-stop t₆ (Puts-stop t₅ (Puts-stop t₄ (Puts-stop t₃ (Puts-fail p q))))

  pub fails_at_3 : {a b c d : S} → Puts w f a b t₁ Done → Puts w f b c t₂ Done → Puts w f c d t₃ Failed → Puts w f a d (six t₁ t₂ t₃ t₄ t₅ t₆) Failed
  fails_at_3 p q r = Puts-stop t₆ (Puts-stop t₅ (Puts-stop t₄ (Puts-fail (Puts-then p q) r)))

  pub fails_at_4 : {a b c d e : S} → Puts w f a b t₁ Done → Puts w f b c t₂ Done → Puts w f c d t₃ Done → Puts w f d e t₄ Failed → Puts w f a e (six t₁ t₂ t₃ t₄ t₅ t₆) Failed
  fails_at_4 p q r s = Puts-stop t₆ (Puts-stop t₅ (Puts-fail (Puts-then (Puts-then p q) r) s))

  pub fails_at_5 : {a b c d e g : S} → Puts w f a b t₁ Done → Puts w f b c t₂ Done → Puts w f c d t₃ Done → Puts w f d e t₄ Done → Puts w f e g t₅ Failed → Puts w f a g (six t₁ t₂ t₃ t₄ t₅ t₆) Failed
  fails_at_5 p q r s u = Puts-stop t₆ (Puts-fail (Puts-then (Puts-then (Puts-then p q) r) s) u)

  pub fails_at_6 : {a b c d e g h : S} → Puts w f a b t₁ Done → Puts w f b c t₂ Done → Puts w f c d t₃ Done → Puts w f d e t₄ Done → Puts w f e g t₅ Done → Puts w f g h t₆ Failed → Puts w f a h (six t₁ t₂ t₃ t₄ t₅ t₆) Failed
  fails_at_6 p q r s u v = Puts-fail (Puts-then (Puts-then (Puts-then (Puts-then p q) r) s) u) v

  pub all_done : {a b c d e g h : S} → Puts w f a b t₁ Done → Puts w f b c t₂ Done → Puts w f c d t₃ Done → Puts w f d e t₄ Done → Puts w f e g t₅ Done → Puts w f g h t₆ Done → Puts w f a h (six t₁ t₂ t₃ t₄ t₅ t₆) Done
  all_done p q r s u v = Puts-then (Puts-then (Puts-then (Puts-then (Puts-then p q) r) s) u) v
