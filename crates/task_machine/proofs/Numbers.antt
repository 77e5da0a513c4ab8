-- Lists over the numbers of the tasks.
use Rattle.std.proofs.Common.{◌≡◌, ℕ, zero, suc, ◌<◌, Bool, true, false, List, [], ◌∷◌, ◌++◌, length, map, refl, ap, sym, ◌∙◌, arith, inl, inr, append_assoc, length-append, slice_get, Some}
use Rattle.std.specs.Option.{option_map}
use Rattle.std.proofs.lemmas.List.{length-map}
use Rattle.task_machine.proofs.Lists.{get_map}
use Rattle.std.specs.Prelude.{◌&&◌}
use Rattle.std.specs.List.{list_all}
use Rattle.std.proofs.lemmas.Bool.{cases_eq}
use Rattle.tower_syntax.specs.Graph.{numbers_before}

numbers_onto : (n : ℕ) (ks : List ℕ) → numbers_before n ks ≡ numbers_before n [] ++ ks
numbers_onto zero ks = refl
numbers_onto (suc n) ks =
    numbers_onto n (n ∷ ks) ∙ sym (ap (λ r. r ++ ks) (numbers_onto n (n ∷ [])) ∙ append_assoc (numbers_before n []) (n ∷ []) ks)

pub numbers_more : (n : ℕ) → numbers_before (suc n) [] ≡ numbers_before n [] ++ n ∷ []
numbers_more n = numbers_onto n (n ∷ [])

pub map_onto : {X Y : Type 0} (f : X → Y) (xs ys : List X) → map f (xs ++ ys) ≡ map f xs ++ map f ys
map_onto f [] ys = refl
map_onto f (x ∷ xs) ys = ap (λ r. f x ∷ r) (map_onto f xs ys)

all_onto : {X : Type 0} (p : X → Bool) (xs ys : List X) → list_all p (xs ++ ys) ≡ (list_all p xs && list_all p ys)
all_onto p [] ys = refl
all_onto p (x ∷ xs) ys = rw (all_onto p xs ys) (and_assoc (p x) (list_all p xs) (list_all p ys))
  where
    and_assoc : (a b c : Bool) → (a && (b && c)) ≡ ((a && b) && c)
    and_assoc true b c = refl
    and_assoc false b c = refl

module _ {X : Type 0} (f : ℕ → X) where
  abbrev pub over : ℕ → List X
  over n = map f (numbers_before n [])

  pub over_more : (n : ℕ) → over (suc n) ≡ over n ++ f n ∷ []
  over_more n = ap (map f) (numbers_more n) ∙ map_onto f (numbers_before n []) (n ∷ [])

  pub all_more : (p : X → Bool) (n : ℕ) → list_all p (over (suc n)) ≡ (list_all p (over n) && p (f n))
  all_more p n = ap (list_all p) (over_more n) ∙ all_onto p (over n) (f n ∷ []) ∙ ap (λ b. list_all p (over n) && b) (and_true (p (f n)))
    where
      and_true : (b : Bool) → (b && true) ≡ b
      and_true true = refl
      and_true false = refl

  -- where one fails not all pass
  pub all_fails : (p : X → Bool) (n x : ℕ) → x < n → p (f x) ≡ false → list_all p (over n) ≡ false
  all_fails p zero x h e = absurd (omega arith)
  all_fails p (suc n) x h e = all_more p n ∙
      elim (cases_eq x n) [
        | inl same ↦ second (list_all p (over n)) (p (f n)) (ap (λ k. p (f k)) (sym same) ∙ e)
        | inr other ↦ first (list_all p (over n)) (p (f n)) (all_fails p n x (omega arith) e)
      ]
    where
      second : (a b : Bool) → b ≡ false → (a && b) ≡ false
      second true b e = e
      second false b e = refl

      first : (a b : Bool) → a ≡ false → (a && b) ≡ false
      first true b e = cc
      first false b e = refl

length_numbers : (n : ℕ) → length (numbers_before n []) ≡ n
length_numbers zero = refl
length_numbers (suc n) = let h = length_numbers n in rw (numbers_more n, length-append) (omega arith)

get_front : {X : Type 0} (xs ys : List X) (i : ℕ) → i < length xs → slice_get (xs ++ ys) i ≡ slice_get xs i
get_front [] ys i h = absurd (omega arith)
get_front (x ∷ xs) ys zero h = refl
get_front (x ∷ xs) ys (suc i) h = get_front xs ys i (omega arith)

get_next : {X : Type 0} (xs : List X) (y : X) (i : ℕ) → i ≡ length xs → slice_get (xs ++ y ∷ []) i ≡ Some y
get_next [] y zero e = refl
get_next [] y (suc i) e = absurd (omega arith)
get_next (x ∷ xs) y zero e = absurd (omega arith)
get_next (x ∷ xs) y (suc i) e = get_next xs y i (omega arith)

get_number : (n x : ℕ) → x < n → slice_get (numbers_before n []) x ≡ Some x
get_number zero x h = absurd (omega arith)
get_number (suc n) x h =
    let l = length_numbers n in
    rw (numbers_more n)
    (elim (cases_eq x n) [
      | inl same ↦ rw same (get_next (numbers_before n []) n n (omega arith))
      | inr other ↦ get_front (numbers_before n []) (n ∷ []) x (omega arith) ∙ get_number n x (omega arith)
    ])

module _ {X : Type 0} (f : ℕ → X) where
  pub length_over : (n : ℕ) → length (over f n) ≡ n
  length_over n = length-map (numbers_before n []) f ∙ length_numbers n

  pub get_over : (n x : ℕ) → x < n → slice_get (over f n) x ≡ Some (f x)
  get_over n x h = get_map f (numbers_before n []) x ∙ ap (option_map f) (get_number n x h)
