-- Two parts of one shape within a value are the same part, or stand apart.
use Rattle.std.proofs.Common.{◌≡◌, ◌≢◌, ℕ, zero, suc, ◌+◌, ◌*◌, ◌<◌, ◌≤◌, List, [], ◌∷◌, length, refl, ap, subst, arith, ◌⊎◌, inl, inr}
use Rattle.std.proofs.Math.Nat.{mul-le-mul_right}
use Rattle.std.proofs.lemmas.Bool.{cases_lt, cases_eq}
use Rattle.tower_types.specs.Ty.{Shape, one, many, all, Shapes, no_shapes, shape, words, depth, depth_of_all}
use Rattle.tower_syntax.specs.Weights.{nth_shape}
use Rattle.tower_syntax.specs.Typed.{count}
use Rattle.stmt_code.specs.Layout.{fields_before}
use Rattle.stmt_code.proofs.Flats.{offset, inner, Part, Along, total, shape_along}
use Rattle.stmt_code.proofs.ExprsRun.{nth_within}

nth_depth : (us : Shapes) (k : ℕ) → k < count us → depth (nth_shape us k) ≤ depth_of_all us
nth_depth no_shapes k lt = absurd (omega arith)
nth_depth (shape s ss) zero lt = omega arith
nth_depth (shape s ss) (suc k) lt = omega (arith, nth_depth ss k (omega arith))

inner_depth : (s : Shape) (k : ℕ) → Part s k → depth (inner s k) + 1 ≤ depth s
inner_depth (one s) k p = absurd p
inner_depth (many n s) k p = omega arith
inner_depth (all us) k p = omega (arith, nth_depth us k p)

along_depth : (ks : List ℕ) (s : Shape) → Along s ks → depth (shape_along s ks) + length ks ≤ depth s
along_depth [] s a = omega arith
along_depth (k ∷ ks) s a = omega (arith, along_depth ks (inner s k) a.1, inner_depth s k a.0)

part_within : (s : Shape) (k : ℕ) → Part s k → offset s k + words (inner s k) ≤ words s
part_within (one s) k p = absurd p
part_within (many n s) k p = let h : suc k * words s ≤ n * words s = mul-le-mul_right (words s) p in omega (arith, h)
part_within (all us) k p = nth_within us k p

pub total_within : (ks : List ℕ) (s : Shape) → Along s ks → total s ks + words (shape_along s ks) ≤ words s
total_within [] s a = omega arith
total_within (k ∷ ks) s a = omega (arith, total_within ks (inner s k) a.1, part_within s k a.0)

before_later : (us : Shapes) (k l : ℕ) → k < l → l < count us → fields_before us k + words (nth_shape us k) ≤ fields_before us l
before_later no_shapes k l lt le = absurd (omega arith)
before_later (shape s ss) zero zero lt le = absurd (omega arith)
before_later (shape s ss) zero (suc l) lt le = omega arith
before_later (shape s ss) (suc k) zero lt le = absurd (omega arith)
before_later (shape s ss) (suc k) (suc l) lt le = omega (arith, before_later ss k l (omega arith) (omega arith))

later : (s : Shape) (k l : ℕ) → k < l → Part s l → offset s k + words (inner s k) ≤ offset s l
later (one s) k l lt p = absurd p
later (many n s) k l lt p = let h : suc k * words s ≤ l * words s = mul-le-mul_right (words s) lt in omega (arith, h)
later (all us) k l lt p = before_later us k l lt p

pub record Relation (m n w : ℕ) : Type 0 where
  pub is : ((m ≡ n) ⊎ (m + w ≤ n)) ⊎ (n + w ≤ m)

shifted : (c m n w : ℕ) → Relation m n w → Relation (c + m) (c + n) w
shifted c m n w r = record { is = elim r.is [ inl x ↦ elim x [ inl e ↦ inl (inl (ap (λ i. c + i) e)) | inr l ↦ inl (inr (omega arith)) ] | inr l ↦ inr (omega arith) ] }

pub paths_apart : (ks ls : List ℕ) (s : Shape) → Along s ks → Along s ls → shape_along s ks ≡ shape_along s ls → Relation (total s ks) (total s ls) (words (shape_along s ks))
paths_apart [] [] s a b e = record { is = inl (inl refl) }
paths_apart [] (l ∷ ls) s a b e = absurd (let d : depth s ≡ depth (shape_along s (l ∷ ls)) = ap depth e in omega (arith, d, along_depth (l ∷ ls) s b))
paths_apart (k ∷ ks) [] s a b e = absurd (let d : depth (shape_along s (k ∷ ks)) ≡ depth s = ap depth e in omega (arith, d, along_depth (k ∷ ks) s a))
paths_apart (k ∷ ks) (l ∷ ls) s a b e = pick (λ along same. paths_apart ks ls (inner s k) a.1 along same) (cases_eq k l) (cases_lt k l)
  where
    same_words : words (shape_along s (k ∷ ks)) ≡ words (shape_along s (l ∷ ls))
    same_words = ap words e

    pick : (Along (inner s k) ls → shape_along (inner s k) ks ≡ shape_along (inner s k) ls → Relation (total (inner s k) ks) (total (inner s k) ls) (words (shape_along (inner s k) ks))) → (k ≡ l) ⊎ (k ≢ l) → (k < l) ⊎ (l ≤ k) → Relation (total s (k ∷ ks)) (total s (l ∷ ls)) (words (shape_along s (k ∷ ks)))
    pick inside (inl q) m =
        subst (λ x. Along (inner s x) ls → shape_along (inner s k) ks ≡ shape_along (inner s x) ls → Relation (total s (k ∷ ks)) (offset s x + total (inner s x) ls) (words (shape_along s (k ∷ ks)))) q
        (λ along same. shifted (offset s k) (total (inner s k) ks) (total (inner s k) ls) (words (shape_along s (k ∷ ks))) (inside along same)) b.1 e
    pick inside (inr q) (inl m) = record { is = inl (inr (omega (arith, later s k l m b.0, total_within ks (inner s k) a.1))) }
    pick inside (inr q) (inr m) = record { is = inr (omega (arith, later s l k (omega (arith, q)) a.0, total_within ls (inner s l) b.1, same_words)) }
