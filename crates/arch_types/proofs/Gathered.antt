-- A list, as far as it is gathered from what each element of another gives.
use Rattle.std.proofs.Common.{◌≡◌, ℕ, ◌+◌, ◌<◌, ◌≤◌, List, [], ◌∷◌, ◌++◌, map, length, take, get_or, refl, sym, ap, ◌∙◌, append_assoc, append-nil}
use Rattle.std.proofs.lemmas.List.{take_more, take_all}
use Rattle.arch_types.specs.Outline.{each}

map-push : {X Y : Type 0} (f : X → Y) (xs : List X) (y : X) → map f (xs ++ y ∷ []) ≡ map f xs ++ f y ∷ []
map-push f [] y = refl
map-push f (x ∷ xs) y = ap (λ r. f x ∷ r) (map-push f xs y)

pub map_take_more : {X Y : Type 0} (f : X → Y) (xs : List X) (i : ℕ) (y : X) → y ≡ get_or xs i y → i < length xs → map f (take (i + 1) xs) ≡ map f (take i xs) ++ f y ∷ []
map_take_more f xs i y e l = ap (map f) (take_more xs i y l ∙ ap (λ z. take i xs ++ z ∷ []) (sym e)) ∙ map-push f (take i xs) y

pub each-append : {X Y : Type 0} (of : X → List Y) (xs ys : List X) → each of (xs ++ ys) ≡ each of xs ++ each of ys
each-append of [] ys = refl
each-append of (x ∷ xs) ys = ap (λ r. of x ++ r) (each-append of xs ys) ∙ sym (append_assoc (of x) (each of xs) (each of ys))

pub each-push : {X Y : Type 0} (of : X → List Y) (xs : List X) (y : X) → each of (xs ++ y ∷ []) ≡ each of xs ++ of y
each-push of xs y = each-append of xs (y ∷ []) ∙ ap (λ r. each of xs ++ r) (append-nil (of y))

module _ {R X Y : Type 0} (raw : R → X) (of : X → List Y) where
  pub record Gathered (start : List Y) (xs : List R) (seen : List Y) : Type 0 where
    pub seen_is : seen ≡ start ++ each of (map raw xs)

  pub none_gathered : (start seen : List Y) → seen ≡ start → Gathered start [] seen
  none_gathered start seen e = record { seen_is = e ∙ sym (append-nil start) }

  pub more_gathered : (start : List Y) (xs : List R) (i : ℕ) (y : R) (seen seen' : List Y) → y ≡ get_or xs i y → i < length xs → Gathered start (take i xs) seen → seen' ≡ seen ++ of (raw y) → Gathered start (take (i + 1) xs) seen'
  more_gathered start xs i y seen seen' e l h k = record {
    seen_is = k ∙ ap (λ r. r ++ of (raw y)) h.seen_is ∙ append_assoc start (each of (map raw (take i xs))) (of (raw y)) ∙ ap (λ r. start ++ r) (sym (each-push of (map raw (take i xs)) (raw y)) ∙ ap (each of) (sym (map_take_more raw xs i y e l)));
  }

  pub all_gathered : (start : List Y) (xs : List R) (i : ℕ) (seen : List Y) → length xs ≤ i → Gathered start (take i xs) seen → seen ≡ start ++ each of (map raw xs)
  all_gathered start xs i seen l h = h.seen_is ∙ ap (λ ys. start ++ each of (map raw ys)) (take_all i xs l)

-- one of each element
pub each_one : {X Y : Type 0} (f : X → Y) (xs : List X) → each (λ x. f x ∷ []) xs ≡ map f xs
each_one f [] = refl
each_one f (x ∷ xs) = ap (λ r. f x ∷ r) (each_one f xs)
