-- What stands at a number.
use Rattle.std.proofs.Common.{◌≡◌, inl, inr, ℕ, zero, suc, ◌<◌, [], ◌∷◌, ◌++◌, length, map, get_or, ap, ◌∙◌, arith}
use Rattle.std.proofs.lemmas.Bool.{cases_lt}
use Rattle.std.proofs.lemmas.List.{length-map, get_or-map, get_or_append_left}
use Rattle.std.proofs.Math.Seq.{get_or-append_seam}
use Rattle.tower_syntax.specs.Graph.{numbers_before}
use Rattle.channel_graph.proofs.Listed.{numbers_before-suc}
use Rattle.channel_graph.proofs.Members.{length-numbers}

numbers_length : (n : ℕ) → length (numbers_before n []) ≡ n
numbers_length n = omega (arith, length-numbers n [])

number_at : (n s d : ℕ) → s < n → get_or (numbers_before n []) s d ≡ s
number_at zero s d h = absurd (omega (arith, h))
number_at (suc n) s d h =
    ap (λ ks. get_or ks s d) (numbers_before-suc n) ∙ elim (cases_lt s n) [
      | inl l ↦ get_or_append_left (numbers_before n []) (n ∷ []) d s (omega (arith, l, numbers_length n)) ∙ number_at n s d l
      | inr l ↦
          let e : s ≡ length (numbers_before n []) = omega (arith, h, l, numbers_length n) in
          ap (λ k. get_or (numbers_before n [] ++ n ∷ []) k d) e ∙ get_or-append_seam (numbers_before n []) n [] d ∙ omega (arith, e, numbers_length n)
    ]

-- the list of a weight over all numbers below n
pub weights_length : (f : ℕ → ℕ) (n : ℕ) → length (map f (numbers_before n [])) ≡ n
weights_length f n = length-map (numbers_before n []) f ∙ numbers_length n

pub weight_at : (f : ℕ → ℕ) (n s d : ℕ) → s < n → get_or (map f (numbers_before n [])) s d ≡ f s
weight_at f n s d h = get_or-map f (numbers_before n []) s s d (omega (arith, h, numbers_length n)) ∙ ap f (number_at n s s h)
