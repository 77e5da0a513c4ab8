-- The places of tasks that pass a test are the numbers that pass it.
use Rattle.std.proofs.Common.{◌≡◌, ◌∙◌, inl, inr, ℕ, zero, suc, ◌+◌, ◌<◌, Bool, true, false, cond, List, [], ◌∷◌, ◌++◌, map, length, Some, refl, sym, ap, ap₂, arith, slice_get}
use Rattle.std.specs.Prelude.{filter}
use Rattle.std.proofs.lemmas.Bool.{cases_lt}
use Rattle.std.proofs.lemmas.List.{map-append, length-map}
use Rattle.std.proofs.lemmas.List.Elements.{filter-append}
use Rattle.tower_syntax.specs.Graph.{numbers_before}
use Rattle.task_code.specs.Policy.{places_from}
use Rattle.channel_graph.proofs.Listed.{numbers_before-suc}
use Rattle.channel_graph.proofs.Members.{length-numbers}

places_append : (n : ℕ) (bs cs : List Bool) → places_from n (bs ++ cs) ≡ places_from n bs ++ places_from (n + length bs) cs
places_append n [] cs = let e : n ≡ n + 0 = omega arith in ap (λ k. places_from k cs) e
places_append n (true ∷ bs) cs =
    let e : suc n + length bs ≡ n + suc (length bs) = omega arith in
    ap (λ l. n ∷ l) (places_append (suc n) bs cs ∙ ap (λ k. places_from (suc n) bs ++ places_from k cs) e)
places_append n (false ∷ bs) cs =
    let e : suc n + length bs ≡ n + suc (length bs) = omega arith in
    places_append (suc n) bs cs ∙ ap (λ k. places_from (suc n) bs ++ places_from k cs) e

one_place : (n : ℕ) (b : Bool) → places_from n (b ∷ []) ≡ cond b (n ∷ []) []
one_place n true = refl
one_place n false = refl

places_are : (q : ℕ → Bool) (n : ℕ) → places_from 0 (map q (numbers_before n [])) ≡ filter q (numbers_before n [])
places_are q zero = refl
places_are q (suc n) =
    let ns : List ℕ = numbers_before n [] in
    let long : 0 + length (map q ns) ≡ n = omega (arith, length-map ns q, length-numbers n []) in
    ap (λ l. places_from 0 (map q l)) (numbers_before-suc n)
    ∙ ap (places_from 0) (map-append q ns (n ∷ []))
    ∙ places_append 0 (map q ns) (q n ∷ [])
    ∙ ap₂ (λ a k. a ++ places_from k (q n ∷ [])) (places_are q n) long
    ∙ ap (λ l. filter q ns ++ l) (one_place n (q n))
    ∙ sym (ap (filter q) (numbers_before-suc n) ∙ filter-append q ns (n ∷ []))

map_map : {X : Type 0} (f : ℕ → X) (g : X → Bool) (ns : List ℕ) → map g (map f ns) ≡ map (λ x. g (f x)) ns
map_map f g [] = refl
map_map f g (n ∷ ns) = ap (λ l. g (f n) ∷ l) (map_map f g ns)

-- of numbers each of which has something
pub places_of : {X : Type 0} (f : ℕ → X) (g : X → Bool) (n : ℕ) → places_from 0 (map g (map f (numbers_before n []))) ≡ filter (λ x. g (f x)) (numbers_before n [])
places_of f g n = ap (places_from 0) (map_map f g (numbers_before n [])) ∙ places_are (λ x. g (f x)) n

-- ---- the number at a place

get_left : {X : Type 0} (xs ys : List X) (i : ℕ) (v : X) → slice_get xs i ≡ Some v → slice_get (xs ++ ys) i ≡ Some v
get_left [] ys i v e = cc
get_left (x ∷ xs) ys zero v e = e
get_left (x ∷ xs) ys (suc i) v e = get_left xs ys i v e

get_last : (xs : List ℕ) (v : ℕ) → slice_get (xs ++ v ∷ []) (length xs) ≡ Some v
get_last [] v = refl
get_last (x ∷ xs) v = get_last xs v

pub number_at : (n m : ℕ) → m < n → slice_get (numbers_before n []) m ≡ Some m
number_at zero m l = absurd (omega (arith, l))
number_at (suc n) m l = ap (λ xs. slice_get xs m) (numbers_before-suc n) ∙ elim (cases_lt m n) [
  | inl h ↦ get_left (numbers_before n []) (n ∷ []) m m (number_at n m h)
  | inr h ↦
      let is : m ≡ length (numbers_before n []) = omega (arith, l, h, length-numbers n []) in
      let same : n ≡ m = omega (arith, l, h) in
      ap (slice_get (numbers_before n [] ++ n ∷ [])) is ∙ get_last (numbers_before n []) n ∙ ap Some same
]
