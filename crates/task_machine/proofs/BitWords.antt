-- Bits of tasks in 64-bit words.
use Rattle.std.proofs.Common.{◌≡◌, ℕ, zero, suc, ◌+◌, ◌*◌, ◌/◌, ◌%◌, ◌^◌, ◌<◌, ◌≤◌, Bool, true, false, List, [], ◌∷◌, length, replicate, refl, ap, sym, ◌∙◌, arith, inl, inr}
use Rattle.std.specs.Prelude.{slice_index, slice_set}
use Rattle.std.specs.Int.{bit_at}
use Rattle.std.proofs.lemmas.Bool.{cases_eq}
use Rattle.std.proofs.lemmas.Nat.Bits.{bit_at-zero}
use Rattle.task_machine.specs.Bits.{words_for, bit, as_bit}

index_set_same : (ws : List ℕ) (i v : ℕ) → i < length ws → slice_index (slice_set ws i v) i ≡ v
index_set_same [] i v h = absurd (omega arith)
index_set_same (w ∷ ws) zero v h = refl
index_set_same (w ∷ ws) (suc i) v h = index_set_same ws i v (omega arith)

index_set_other : (ws : List ℕ) (i j v : ℕ) → (j ≡ i → ⊥) → slice_index (slice_set ws i v) j ≡ slice_index ws j
index_set_other [] i j v h = refl
index_set_other (w ∷ ws) zero zero v h = absurd (h refl)
index_set_other (w ∷ ws) zero (suc j) v h = refl
index_set_other (w ∷ ws) (suc i) zero v h = refl
index_set_other (w ∷ ws) (suc i) (suc j) v h = index_set_other ws i j v (λ e. h (ap suc e))

module _ (ws : List ℕ) (t v : ℕ) (within : t / 64 < length ws) where
  pub bit_here : bit (slice_set ws (t / 64) v) t ≡ bit_at v (t % 64)
  bit_here = ap (λ w. bit_at w (t % 64)) (index_set_same ws (t / 64) v within)

  pub bit_there : ((i : ℕ) → i < 64 → (i ≡ t % 64 → ⊥) → bit_at v i ≡ bit_at (slice_index ws (t / 64)) i) → (y : ℕ) → (y ≡ t → ⊥) → bit (slice_set ws (t / 64) v) y ≡ bit ws y
  bit_there keeps y other =
      elim (cases_eq (y / 64) (t / 64)) [
        | inl same ↦
            let small : y % 64 < 64 = omega arith in
            let apart : y % 64 ≡ t % 64 → ⊥ = λ e. other (omega arith) in
            let e : bit (slice_set ws (t / 64) v) y ≡ bit_at v (y % 64) = ap (λ i. bit_at (slice_index (slice_set ws (t / 64) v) i) (y % 64)) same ∙ ap (λ w. bit_at w (y % 64)) (index_set_same ws (t / 64) v within) in
            e ∙ keeps (y % 64) small apart ∙ ap (λ i. bit_at (slice_index ws i) (y % 64)) (sym same)
        | inr apart ↦ ap (λ w. bit_at w (y % 64)) (index_set_other ws (t / 64) (y / 64) v apart)
      ]

-- the place of a bit
pub word_at_place : (k i : ℕ) → i < 64 → (64 * k + i) / 64 ≡ k
word_at_place k i h = omega arith

pub bit_at_place : (k i : ℕ) → i < 64 → (64 * k + i) % 64 ≡ i
bit_at_place k i h = omega arith

pub bit_in_word : (ws : List ℕ) (k i : ℕ) → i < 64 → bit ws (64 * k + i) ≡ bit_at (slice_index ws k) i
bit_in_word ws k i h = rw (word_at_place k i h, bit_at_place k i h) refl

pub word_exists : (t n : ℕ) → t < n → t / 64 < words_for n
word_exists t n h = omega arith

index_replicate : (n i : ℕ) → slice_index (replicate n 0) i ≡ 0
index_replicate zero i = refl
index_replicate (suc n) zero = refl
index_replicate (suc n) (suc i) = index_replicate n i

-- no bit is set in words that are 0
pub bit_blank : (n t : ℕ) → bit (replicate n 0) t ≡ 0
bit_blank n t = ap (λ w. bit_at w (t % 64)) (index_replicate n (t / 64)) ∙ bit_at-zero (t % 64)

pub bit_true : (b : Bool) → as_bit b ≡ 1 → b ≡ true
bit_true true e = refl
bit_true false e = cc

pub bit_false : (b : Bool) → as_bit b ≡ 0 → b ≡ false
bit_false true e = cc
bit_false false e = refl

pub bit_set : (n : ℕ) (b : Bool) → n ≡ as_bit b → b ≡ true → n ≡ 1
bit_set n true e h = e
bit_set n false e h = cc

pub bit_unset : (n : ℕ) (b : Bool) → n ≡ as_bit b → b ≡ false → n ≡ 0
bit_unset n true e h = cc
bit_unset n false e h = e
