-- The place of the first element that passes a test.
use Rattle.std.proofs.Common.{◌≡◌, ◌<◌, ◌≤◌, ℕ, zero, suc, ◌+◌, List, [], ◌∷◌, length, drop, get_or, map, Bool, true, false, not, cond, refl, ap, sym, ◌∙◌, arith, Option, Some, None}
use Rattle.std.specs.Prelude.{nat_lt, position, slice_get}
use Rattle.std.specs.List.{prefix_len, position_or_len}
use Rattle.std.proofs.lemmas.Bool.{ltb-true, lt-ltb, le-ltb}
use Rattle.std.proofs.lemmas.List.{get_or-map, length-map}
use Rattle.std.proofs.lemmas.List.Sums.{prefix_len-drop_yes, prefix_len-drop_no, prefix_len-drop_all, prefix_len-le-length}

below_by : (n m x : ℕ) (b : Bool) → nat_lt n m ≡ b → cond b (Some n) None ≡ Some x → x < m
below_by n m x true e h = let p : n ≡ x = cc in let q : n < m = ltb-true n m e in omega (arith, p, q)
below_by n m x false e h = cc

pub position_below : {X : Type 0} (p : X → Bool) (xs : List X) (x : ℕ) → position p xs ≡ Some x → x < length xs
position_below p xs x h = below_by (position_or_len p xs) (length xs) x (nat_lt (position_or_len p xs) (length xs)) refl h

-- no element before place i passes
abbrev pub PassedBy : {X : Type 0} → (X → Bool) → List X → ℕ → Type 0
PassedBy p xs i = position_or_len p xs ≡ i + position_or_len p (drop i xs)

pub passes_here : {X : Type 0} (p : X → Bool) (xs : List X) (i : ℕ) (d : X) → i < length xs → p (get_or xs i d) ≡ true → PassedBy p xs i → Some i ≡ position p xs
passes_here p xs i d h t e =
    let n : position_or_len p xs ≡ i = omega (arith, e, prefix_len-drop_no (λ x. not (p x)) xs i d h (ap not t)) in
    sym (ap (λ n. cond (nat_lt n (length xs)) (Some n) None) n ∙ ap (λ b. cond b (Some i) None) (lt-ltb i (length xs) h))

pub passes_more : {X : Type 0} (p : X → Bool) (xs : List X) (i : ℕ) (d : X) → i < length xs → p (get_or xs i d) ≡ false → PassedBy p xs i → PassedBy p xs (i + 1)
passes_more p xs i d h t e = omega (arith, e, prefix_len-drop_yes (λ x. not (p x)) xs i d h (ap not t))

pub passes_none : {X : Type 0} (p : X → Bool) (xs : List X) (i : ℕ) → length xs ≤ i → PassedBy p xs i → None ≡ position p xs
passes_none p xs i h e =
    let n : length xs ≤ position_or_len p xs = omega (arith, e, prefix_len-drop_all (λ x. not (p x)) xs i h) in
    sym (ap (λ b. cond b (Some (position_or_len p xs)) None) (le-ltb (position_or_len p xs) (length xs) n))

-- the same over what elements are seen as
pub seen_at : {X Y : Type 0} (f : X → Y) (xs : List X) (i : ℕ) (x : X) → i < length xs → x ≡ get_or xs i x → get_or (map f xs) i (f x) ≡ f x
seen_at f xs i x h e = get_or-map f xs i x (f x) h ∙ ap f (sym e)

pub seen_here : {X Y : Type 0} (f : X → Y) (p : Y → Bool) (xs : List X) (i : ℕ) (x : X) → i < length xs → x ≡ get_or xs i x → p (f x) ≡ true → PassedBy p (map f xs) i → Some i ≡ position p (map f xs)
seen_here f p xs i x h e t g = passes_here p (map f xs) i (f x) (omega (arith, h, length-map xs f)) (ap p (seen_at f xs i x h e) ∙ t) g

pub seen_more : {X Y : Type 0} (f : X → Y) (p : Y → Bool) (xs : List X) (i : ℕ) (x : X) → i < length xs → x ≡ get_or xs i x → p (f x) ≡ false → PassedBy p (map f xs) i → PassedBy p (map f xs) (i + 1)
seen_more f p xs i x h e t g = passes_more p (map f xs) i (f x) (omega (arith, h, length-map xs f)) (ap p (seen_at f xs i x h e) ∙ t) g

pub seen_none : {X Y : Type 0} (f : X → Y) (p : Y → Bool) (xs : List X) (i : ℕ) → length xs ≤ i → PassedBy p (map f xs) i → None ≡ position p (map f xs)
seen_none f p xs i h g = passes_none p (map f xs) i (omega (arith, h, length-map xs f)) g

pub slice_there : {X : Type 0} (xs : List X) (i : ℕ) → i < length xs → slice_get xs i ≡ None → ⊥
slice_there [] i h e = omega (arith, h)
slice_there (x ∷ xs) zero h e = cc
slice_there (x ∷ xs) (suc i) h e = slice_there xs i (omega (arith, h)) e
