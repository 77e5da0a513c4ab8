-- Words of types and fields, and sums that stop at a limit.
use Rattle.std.proofs.Common.{◌≡◌, ℕ, suc, ◌+◌, ◌<◌, ◌≤◌, map, sum, length, get_or, take, filter, List, [], ◌∷◌, ◌++◌, All, cond, Bool, true, false, arith, refl, ap, sym, ◌∙◌}
use Rattle.std.proofs.lemmas.List.Sums.{sum_by-cons}
use Rattle.std.proofs.Common.{add-zero}
use Rattle.std.proofs.lemmas.List.{take_more, length-map}
use Rattle.std.proofs.lemmas.List.Elements.{filter-append}
use Rattle.tower_syntax.proofs.Elements.{kept}
use Rattle.tower_syntax.specs.Graph.{numbers_before}
use Rattle.channel_graph.proofs.Listed.{numbers_before-suc}
use Rattle.tower_types.specs.Ty.{Ty, scalar, array, rec, Shape, shapes_of, words, words_of_all, nesting}
use Rattle.tower_types.specs.Records.{IsTypeAmong}
use Rattle.tower_syntax.specs.WellNumbered.{IsNumberedType, type_height}

nesting_below : (t : Ty) → nesting t ≤ type_height t
nesting_below (scalar s) = omega arith
nesting_below (array n t) = omega (arith, nesting_below t)
nesting_below (rec r) = omega arith

pub type_among : (n : ℕ) (t : Ty) → IsNumberedType n t → IsTypeAmong n t
type_among n t h = (h.0, omega (arith, h.1, nesting_below t))

-- the words of a record are the sum of its fields'
pub words-all : (ss : List Shape) → words_of_all (shapes_of ss) ≡ sum (map words ss)
words-all [] = refl
words-all (s ∷ ss) = omega (arith, words-all ss, sum_by-cons (λ n. n) (words s) (map words ss))

-- what is said of each view is said of that of the element that is read
pub each_view : {X Y : Type 0} (P : Y → Type 0) (f : X → Y) (xs : List X) (k : ℕ) (x : X) → All P (map f xs) → k < length xs → x ≡ get_or xs k x → P (f x)
each_view P f xs k x all within read =
    let inside : k < length (map f xs) = omega (arith, length-map xs f) in
    kept P f xs (map f xs) k x refl all read inside

sum_of_views-push : {X Y Z : Type 0} (f : Z → ℕ) (g : Y → Z) (view : X → Y) (xs : List X) (y : X) → sum (map f (map g (map view (xs ++ y ∷ [])))) ≡ sum (map f (map g (map view xs))) + f (g (view y))
sum_of_views-push f g view [] y = omega arith
sum_of_views-push f g view (x ∷ xs) y = omega (arith, sum_by-cons (λ n. n) (f (g (view x))) (map f (map g (map view (xs ++ y ∷ [])))), sum_by-cons (λ n. n) (f (g (view x))) (map f (map g (map view xs))), sum_of_views-push f g view xs y)

-- a sum over a list that grows, behind two views
pub sum_of_views-more : {X Y Z : Type 0} (f : Z → ℕ) (g : Y → Z) (view : X → Y) (xs : List X) (i : ℕ) (d : X) → i < length xs → sum (map f (map g (map view (take (i + 1) xs)))) ≡ sum (map f (map g (map view (take i xs)))) + f (g (view (get_or xs i d)))
sum_of_views-more f g view xs i d h = ap (λ ys. sum (map f (map g (map view ys)))) (take_more xs i d h) ∙ sum_of_views-push f g view (take i xs) (get_or xs i d)

-- a sum over the numbers that pass
pub sum_passing : (f : ℕ → ℕ) (p : ℕ → Bool) (n : ℕ) → sum (map f (filter p (numbers_before (n + 1) []))) ≡ sum (map f (filter p (numbers_before n []))) + cond (p n) (f n) 0
sum_passing f p n =
    let next : n + 1 ≡ suc n = omega arith in
    ap (λ m. sum (map f (filter p (numbers_before m [])))) next ∙ ap (λ ks. sum (map f (filter p ks))) (numbers_before-suc n) ∙ over (numbers_before n [])
  where
    one : (b : Bool) → sum (map f (cond b (n ∷ []) [])) ≡ cond b (f n) 0
    one true = sum_by-cons (λ m. m) (f n) [] ∙ add-zero (f n)
    one false = refl

    sum_map-append : (xs ys : List ℕ) → sum (map f (xs ++ ys)) ≡ sum (map f xs) + sum (map f ys)
    sum_map-append [] ys = omega arith
    sum_map-append (x ∷ xs) ys = omega (arith, sum_by-cons (λ m. m) (f x) (map f (xs ++ ys)), sum_by-cons (λ m. m) (f x) (map f xs), sum_map-append xs ys)

    over : (xs : List ℕ) → sum (map f (filter p (xs ++ n ∷ []))) ≡ sum (map f (filter p xs)) + cond (p n) (f n) 0
    over xs =
        ap (λ ks. sum (map f ks)) (filter-append p xs (n ∷ [])) ∙ sum_map-append (filter p xs) (filter p (n ∷ [])) ∙ ap (λ m. sum (map f (filter p xs)) + m) (one (p n))

-- a sum over all numbers below n
pub sum_numbers : (f : ℕ → ℕ) (n : ℕ) → sum (map f (numbers_before (n + 1) [])) ≡ sum (map f (numbers_before n [])) + f n
sum_numbers f n = sym (ap (λ ks. sum (map f ks)) (all_pass (numbers_before (n + 1) []))) ∙ sum_passing f (λ k. true) n ∙ ap (λ ks. sum (map f ks) + f n) (all_pass (numbers_before n []))
  where
    all_pass : (xs : List ℕ) → filter (λ k. true) xs ≡ xs
    all_pass [] = refl
    all_pass (x ∷ xs) = ap (λ ys. x ∷ ys) (all_pass xs)
