-- A set of names, as far as it is filled.
use Rattle.std.proofs.Common.{◌≡◌, ℕ, ◌+◌, ◌<◌, ◌≤◌, List, [], ◌∷◌, ◌++◌, map, length, take, get_or, refl, sym, ap, ◌∙◌, append_assoc, append-nil}
use Rattle.std.specs.Option.{option_or}
use Rattle.std.proofs.lemmas.List.{take_more, take_all}
use Rattle.tower_types.specs.Ty.{Name}
use Rattle.arch_names.specs.Names.{Names, find}
use Rattle.arch_names.specs.Sets.{each, counting}
use Rattle.arch_names.proofs.Found.{find-append}

pub find_more : {T : Type 0} (a b c : Names T) → find a ≡ find b → find (a ++ c) ≡ find (b ++ c)
find_more a b c h =
    let e : (n : Name) → find (a ++ c) n ≡ find (b ++ c) n = λ n. find-append a c n ∙ ap (λ r. option_or r (find c n)) (λ i. h i n) ∙ sym (find-append b c n) in
    λ i n. e n i

map-push : {X Y : Type 0} (f : X → Y) (xs : List X) (y : X) → map f (xs ++ y ∷ []) ≡ map f xs ++ f y ∷ []
map-push f [] y = refl
map-push f (x ∷ xs) y = ap (λ r. f x ∷ r) (map-push f xs y)

pub map_take_more : {X Y : Type 0} (f : X → Y) (xs : List X) (i : ℕ) (y : X) → y ≡ get_or xs i y → i < length xs → map f (take (i + 1) xs) ≡ map f (take i xs) ++ f y ∷ []
map_take_more f xs i y e l = ap (map f) (take_more xs i y l ∙ ap (λ z. take i xs ++ z ∷ []) (sym e)) ∙ map-push f (take i xs) y

pub each-append : {X Y : Type 0} (of : X → List Y) (xs ys : List X) → each of (xs ++ ys) ≡ each of xs ++ each of ys
each-append of [] ys = refl
each-append of (x ∷ xs) ys = ap (λ r. of x ++ r) (each-append of xs ys) ∙ sym (append_assoc (of x) (each of xs) (each of ys))

pub each-push : {X Y : Type 0} (of : X → List Y) (xs : List X) (y : X) → each of (xs ++ y ∷ []) ≡ each of xs ++ of y
each-push of xs y = each-append of xs (y ∷ []) ∙ ap (λ r. each of xs ++ r) (append-nil (of y))

-- the number behind some elements
abbrev pub number_past : {N X : Type 0} → (N → X → N) → N → List X → N
number_past next n [] = n
number_past next n (x ∷ xs) = number_past next (next n x) xs

module _ {N X Y : Type 0} (of : N → X → List Y) (next : N → X → N) where
  counting-push : (n : N) (xs : List X) (y : X) → counting of next n (xs ++ y ∷ []) ≡ counting of next n xs ++ of (number_past next n xs) y
  counting-push n [] y = append-nil (of n y)
  counting-push n (x ∷ xs) y = ap (λ r. of n x ++ r) (counting-push (next n x) xs y) ∙ sym (append_assoc (of n x) (counting of next (next n x) xs) (of (number_past next (next n x) xs) y))

number-push : {N X : Type 0} (next : N → X → N) (n : N) (xs : List X) (y : X) → number_past next n (xs ++ y ∷ []) ≡ next (number_past next n xs) y
number-push next n [] y = refl
number-push next n (x ∷ xs) y = number-push next (next n x) xs y

module _ {R X T : Type 0} (raw : R → X) (of : X → Names T) where
  -- from what was there, with what each element declares
  pub record Filled (start : Names T) (xs : List R) (names : Names T) : Type 0 where
    pub finds : find names ≡ find (start ++ each of (map raw xs))

  pub none_filled : (start names : Names T) → names ≡ start → Filled start [] names
  none_filled start names e = record { finds = ap find (e ∙ sym (append-nil start)) }

  pub filled_more : (start : Names T) (xs : List R) (i : ℕ) (y : R) (names names' : Names T) → y ≡ get_or xs i y → i < length xs → Filled start (take i xs) names → find names' ≡ find (names ++ of (raw y)) → Filled start (take (i + 1) xs) names'
  filled_more start xs i y names names' e l h k = record {
    finds = k ∙ find_more names (start ++ each of (map raw (take i xs))) (of (raw y)) h.finds ∙ ap find (append_assoc start (each of (map raw (take i xs))) (of (raw y)) ∙ ap (λ r. start ++ r) (sym (each-push of (map raw (take i xs)) (raw y)) ∙ ap (each of) (sym (map_take_more raw xs i y e l))));
  }

  pub all_filled : (start : Names T) (xs : List R) (i : ℕ) (names : Names T) → length xs ≤ i → Filled start (take i xs) names → find names ≡ find (start ++ each of (map raw xs))
  all_filled start xs i names l h = h.finds ∙ ap (λ ys. find (start ++ each of (map raw ys))) (take_all i xs l)

module _ {N R X T : Type 0} (raw : R → X) (of : N → X → Names T) (next : N → X → N) (n : N) where
  pub record Counted (xs : List R) (names : Names T) (k : N) : Type 0 where
    pub finds : find names ≡ find (counting of next n (map raw xs))
    pub number : k ≡ number_past next n (map raw xs)

  pub none_counted : (names : Names T) → names ≡ [] → Counted [] names n
  none_counted names e = record { finds = ap find e; number = refl }

  pub counted_more : (xs : List R) (i : ℕ) (y : R) (names names' : Names T) (k k' : N) → y ≡ get_or xs i y → i < length xs → Counted (take i xs) names k → find names' ≡ find (names ++ of k (raw y)) → k' ≡ next k (raw y) → Counted (take (i + 1) xs) names' k'
  counted_more xs i y names names' k k' e l h f g =
      let m = map_take_more raw xs i y e l in
      record {
        finds = f ∙ find_more names (counting of next n (map raw (take i xs))) (of k (raw y)) h.finds ∙ ap (λ z. find (counting of next n (map raw (take i xs)) ++ of z (raw y))) h.number ∙ ap find (sym (counting-push of next n (map raw (take i xs)) (raw y)) ∙ ap (counting of next n) (sym m));
        number = g ∙ ap (λ z. next z (raw y)) h.number ∙ sym (number-push next n (map raw (take i xs)) (raw y)) ∙ ap (number_past next n) (sym m);
      }

  pub all_counted : (xs : List R) (i : ℕ) (names : Names T) (k : N) → length xs ≤ i → Counted (take i xs) names k → find names ≡ find (counting of next n (map raw xs))
  all_counted xs i names k l h = h.finds ∙ ap (λ ys. find (counting of next n (map raw ys))) (take_all i xs l)
