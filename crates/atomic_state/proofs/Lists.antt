-- Lists.
use Rattle.std.proofs.Common.{◌≡◌, ◌∙◌, ℕ, zero, suc, ◌+◌, ◌<◌, List, [], ◌∷◌, ◌++◌, length, map, refl, ap, sym, slice_set, add-one, drop, get_or, slice_index_or, slice_get, Some, arith, subst, replicate, take}
use Rattle.std.proofs.lemmas.List.{map-append}
use Rattle.std.proofs.lemmas.Option.{none-some}
use Rattle.std.proofs.Math.Seq.{drop-cons}

pub map_set : {A B : Type 0} (f : A → B) (xs : List A) (k : ℕ) (x : A) → map f (slice_set xs k x) ≡ slice_set (map f xs) k (f x)
map_set f [] k x = refl
map_set f (y ∷ xs) zero x = refl
map_set f (y ∷ xs) (suc k) x = ap (λ l. f y ∷ l) (map_set f xs k x)

-- what is left of a list begins with what is read
pub left_of : {A : Type 0} (xs : List A) (i : ℕ) (x : A) → i < length xs → x ≡ get_or xs i x → drop i xs ≡ x ∷ drop (i + 1) xs
left_of xs i x within read = drop-cons xs i x within ∙ ap (λ z. z ∷ drop (suc i) xs) (sym read) ∙ ap (λ j. x ∷ drop j xs) (sym (add-one i))

pub got_map : {A B : Type 0} (f : A → B) (xs : List A) (k : ℕ) (x : A) (d : B) → k < length xs → x ≡ get_or xs k x → f x ≡ slice_index_or (map f xs) k d
got_map f [] k x d lt e = absurd (omega arith)
got_map f (y ∷ xs) zero x d lt e = ap f e
got_map f (y ∷ xs) (suc k) x d lt e = got_map f xs k x d (omega arith) e

pub set_self : {A : Type 0} (xs : List A) (k : ℕ) (d : A) → slice_set xs k (slice_index_or xs k d) ≡ xs
set_self [] k d = refl
set_self (x ∷ xs) zero d = refl
set_self (x ∷ xs) (suc k) d = ap (λ l. x ∷ l) (set_self xs k d)

pub get_set_same : {A : Type 0} (xs : List A) (k : ℕ) (x : A) → k < length xs → slice_get (slice_set xs k x) k ≡ Some x
get_set_same [] k x lt = absurd (omega arith)
get_set_same (y ∷ xs) zero x lt = refl
get_set_same (y ∷ xs) (suc k) x lt = get_set_same xs k x (omega arith)

pub get_set_other : {A : Type 0} (xs : List A) (k j : ℕ) (x : A) → (j ≡ k → ⊥) → slice_get (slice_set xs k x) j ≡ slice_get xs j
get_set_other [] k j x ne = refl
get_set_other (y ∷ xs) zero zero x ne = absurd (ne refl)
get_set_other (y ∷ xs) zero (suc j) x ne = refl
get_set_other (y ∷ xs) (suc k) zero x ne = refl
get_set_other (y ∷ xs) (suc k) (suc j) x ne = get_set_other xs k j x (λ e. ne (ap suc e))

pub get_of : {A : Type 0} (xs : List A) (k : ℕ) (x : A) → k < length xs → x ≡ get_or xs k x → slice_get xs k ≡ Some x
get_of [] k x lt e = absurd (omega arith)
get_of (y ∷ xs) zero x lt e = ap Some (sym e)
get_of (y ∷ xs) (suc k) x lt e = get_of xs k x (omega arith) e

pub some_same : {A : Type 0} (x y : A) → Some x ≡ Some y → x ≡ y
some_same x y e = cc

pub any_default : {A : Type 0} (xs : List A) (k : ℕ) (d e : A) → k < length xs → get_or xs k d ≡ get_or xs k e
any_default [] k d e lt = absurd (omega arith)
any_default (x ∷ xs) zero d e lt = refl
any_default (x ∷ xs) (suc k) d e lt = any_default xs k d e (omega arith)

-- what holds of each place still holds after a write that keeps it
pub after_set : {A : Type 0} (P : ℕ → A → Type 0) (xs : List A) (k : ℕ) (v : A) → ((j : ℕ) (x : A) → slice_get xs j ≡ Some x → P j x) → P k v → (j : ℕ) (x : A) → slice_get (slice_set xs k v) j ≡ Some x → P j x
after_set P [] k v all h j x e = all j x e
after_set P (y ∷ xs) zero v all h zero x e = subst (P zero) (some_same v x e) h
after_set P (y ∷ xs) zero v all h (suc j) x e = all (suc j) x e
after_set P (y ∷ xs) (suc k) v all h zero x e = all zero x e
after_set P (y ∷ xs) (suc k) v all h (suc j) x e = after_set (λ i. P (suc i)) xs k v (λ i z d. all (suc i) z d) h j x e

pub at_or : {A : Type 0} (P : ℕ → A → Type 0) (xs : List A) (k : ℕ) (d : A) → ((j : ℕ) (x : A) → slice_get xs j ≡ Some x → P j x) → P k d → P k (slice_index_or xs k d)
at_or P [] k d all h = h
at_or P (y ∷ xs) zero d all h = all zero y refl
at_or P (y ∷ xs) (suc k) d all h = at_or (λ i. P (suc i)) xs k d (λ i z e. all (suc i) z e) h

pub get_mapped : {A B : Type 0} (f : A → B) (xs : List A) (k : ℕ) (y : B) → slice_get (map f xs) k ≡ Some y → (x : A) × (slice_get xs k ≡ Some x) × (f x ≡ y)
get_mapped f [] k y e = absurd (none-some y e)
get_mapped f (x ∷ xs) zero y e = (x, refl, some_same (f x) y e)
get_mapped f (x ∷ xs) (suc k) y e = get_mapped f xs k y e

pub got_within : {A : Type 0} (xs : List A) (k : ℕ) → k < length xs → (x : A) × (slice_get xs k ≡ Some x)
got_within [] k lt = absurd (omega arith)
got_within (x ∷ xs) zero lt = (x, refl)
got_within (x ∷ xs) (suc k) lt = got_within xs k (omega arith)

pub set_twice : {A : Type 0} (xs : List A) (k : ℕ) (a b : A) → slice_set (slice_set xs k a) k b ≡ slice_set xs k b
set_twice [] k a b = refl
set_twice (x ∷ xs) zero a b = refl
set_twice (x ∷ xs) (suc k) a b = ap (λ l. x ∷ l) (set_twice xs k a b)

pub map_map : {A B C : Type 0} (f : B → C) (g : A → B) (xs : List A) → map f (map g xs) ≡ map (λ x. f (g x)) xs
map_map f g [] = refl
map_map f g (x ∷ xs) = ap (λ l. f (g x) ∷ l) (map_map f g xs)

pub set_read : {A : Type 0} (xs : List A) (k : ℕ) (a b : A) → k < length xs → b ≡ get_or (slice_set xs k a) k b → b ≡ a
set_read [] k a b lt e = absurd (omega arith)
set_read (x ∷ xs) zero a b lt e = e
set_read (x ∷ xs) (suc k) a b lt e = set_read xs k a b (omega arith) e

pub map_replicate : {A B : Type 0} (f : A → B) (n : ℕ) (x : A) → map f (replicate n x) ≡ replicate n (f x)
map_replicate f zero x = refl
map_replicate f (suc n) x = ap (λ l. f x ∷ l) (map_replicate f n x)

same_more : {B C : Type 0} (bs : List B) (j : ℕ) (c : C) → j < length bs → map (λ x. c) (take (suc j) bs) ≡ map (λ x. c) (take j bs) ++ c ∷ []
same_more [] j c lt = absurd (omega arith)
same_more (b ∷ bs) zero c lt = refl
same_more (b ∷ bs) (suc j) c lt = ap (λ l. c ∷ l) (same_more bs j c (omega arith))

-- one more element, all of which stand for the same
pub one_same : {A B C : Type 0} (f : A → C) (xs : List B) (ys zs : List A) (i : ℕ) (y : A) (c : C) → i < length xs → zs ≡ ys ++ y ∷ [] → f y ≡ c → map f ys ≡ map (λ x. c) (take i xs) → map f zs ≡ map (λ x. c) (take (i + 1) xs)
one_same f xs ys zs i y c lt e is h =
    ap (map f) e ∙ map-append f ys (y ∷ []) ∙ ap (λ l. l ++ f y ∷ []) h ∙ ap (λ z. map (λ x. c) (take i xs) ++ z ∷ []) is ∙ sym (ap (λ k. map (λ x. c) (take k xs)) (add-one i) ∙ same_more xs i c lt)
