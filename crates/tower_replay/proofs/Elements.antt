-- Texts of the elements of a list, put one after another.
use Rattle.std.proofs.Common.{◌≡◌, ℕ, zero, suc, ◌+◌, List, [], ◌∷◌, ◌++◌, take, drop, length, map, All, Option, Some, refl, sym, ap, ◌∙◌, subst, append_assoc, append-nil, add-one, slice_get}
use Rattle.std.proofs.Math.Seq.{take-length}
use Rattle.std.proofs.lemmas.Option.{none-some, same_Some, get_or_from_slice_get, slice_get_within}
use Rattle.std.specs.List.{flat_map}
use Rattle.tower_io.specs.declared.answers.Put.TheVariants as put
use Rattle.tower_report.specs.Bytes.{Bytes}
use Rattle.tower_run.specs.Paging.{PutsOver}
use Rattle.tower_run.proofs.Paging.{over_then, over_stop, over_same}

pub get_map : {X Y : Type 0} (f : X → Y) (xs : List X) (i : ℕ) (x : X) → slice_get xs i ≡ Some x → slice_get (map f xs) i ≡ Some (f x)
get_map f [] i x e = absurd (none-some x e)
get_map f (y ∷ ys) zero x e = ap (λ z. Some (f z)) (same_Some y x e)
get_map f (y ∷ ys) (suc i) x e = get_map f ys i x e

pub all_at : {X : Type 0} (P : X → Type 0) (xs : List X) (i : ℕ) (x : X) → All P xs → slice_get xs i ≡ Some x → P x
all_at P xs i x all e = subst P (get_or_from_slice_get xs i x x e) (all i x (slice_get_within xs i x e))

-- one element more is taken
pub take_more : {X : Type 0} (xs : List X) (i : ℕ) (x : X) → slice_get xs i ≡ Some x → take i xs ++ x ∷ [] ≡ take (i + 1) xs
take_more {X = X} xs i x e = by xs i e ∙ ap (λ n. take n xs) (sym (add-one i))
  where
    by : (ys : List X) (j : ℕ) → slice_get ys j ≡ Some x → take j ys ++ x ∷ [] ≡ take (suc j) ys
    by [] j e = absurd (none-some x e)
    by (y ∷ ys) zero e = ap (λ z. z ∷ []) (sym (same_Some y x e))
    by (y ∷ ys) (suc j) e = ap (λ l. y ∷ l) (by ys j e)

module _ {X : Type 0} (text : X → Bytes) where
  one_more : (xs : List X) (i : ℕ) (x : X) → slice_get xs i ≡ Some x → flat_map text (take i xs) ++ text x ≡ flat_map text (take (suc i) xs)
  one_more [] i x e = absurd (none-some x e)
  one_more (y ∷ ys) zero x e = ap text (sym (same_Some y x e)) ∙ sym (append-nil (text y))
  one_more (y ∷ ys) (suc i) x e = append_assoc (text y) (flat_map text (take i ys)) (text x) ∙ ap (λ t. text y ++ t) (one_more ys i x e)

  both_parts : (xs : List X) (i : ℕ) → flat_map text (take i xs) ++ flat_map text (drop i xs) ≡ flat_map text xs
  both_parts xs zero = refl
  both_parts [] (suc i) = refl
  both_parts (y ∷ ys) (suc i) = append_assoc (text y) (flat_map text (take i ys)) (flat_map text (drop i ys)) ∙ ap (λ t. text y ++ t) (both_parts ys i)

  pub all_elements : (xs : List X) (i : ℕ) → i ≡ length xs → flat_map text (take i xs) ≡ flat_map text xs
  all_elements xs i e = ap (λ n. flat_map text (take n xs)) e ∙ ap (flat_map text) (take-length xs)

  module _ {S : Type 0} {w : S → Option (List ℕ)} {f : S → ℕ} (xs : List X) (i : ℕ) (x : X) (at : slice_get xs i ≡ Some x) where
    -- the texts of the elements before x, and then that of x
    pub over_element : {a b c : S} {p q r : Bytes} → PutsOver w f a p b q (flat_map text (take i xs)) put.Done → PutsOver w f b q c r (text x) put.Done → PutsOver w f a p c r (flat_map text (take (i + 1) xs)) put.Done
    over_element {a} {b} {c} {p} {q} {r} before here =
        over_same (one_more xs i x at ∙ ap (λ n. flat_map text (take n xs)) (sym (add-one i))) (over_then put.Done before here)

    -- where that of x failed, none comes after it
    pub over_element_part : {a b c : S} {p q r : Bytes} → PutsOver w f a p b q (flat_map text (take i xs)) put.Done → PutsOver w f b q c r (text x) put.Failed → PutsOver w f a p c r (flat_map text xs) put.Failed
    over_element_part {a} {b} {c} {p} {q} {r} before here =
        let rest = flat_map text (drop (suc i) xs) in
        over_same (ap (λ t. t ++ rest) (one_more xs i x at) ∙ both_parts xs (suc i)) (over_stop rest (over_then put.Failed before here))
