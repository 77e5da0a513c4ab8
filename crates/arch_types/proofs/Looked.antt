-- The element at a place of a list, or none.
use Rattle.std.proofs.Common.{◌≡◌, ℕ, zero, suc, List, [], ◌∷◌, map, slice_get, slice_index_or, Some, None, refl, sym}
use Rattle.std.proofs.lemmas.Option.{none-some, same_Some}

pub missing : {A : Type 0} (xs : List A) (k : ℕ) (d : A) → None ≡ slice_get xs k → slice_index_or xs k d ≡ d
missing [] k d h = refl
missing (x ∷ xs) zero d h = absurd (none-some _ h)
missing (x ∷ xs) (suc k) d h = missing xs k d h

module _ {A B C : Type 0} (f : B → C) (g : A → B) where
  pub looked_at : (xs : List A) (k : ℕ) (d : C) (x : A) → Some x ≡ slice_get xs k → slice_index_or (map f (map g xs)) k d ≡ f (g x)
  looked_at [] k d x h = absurd (none-some _ (sym h))
  looked_at (y ∷ xs) zero d x h = rw (same_Some _ _ h) refl
  looked_at (y ∷ xs) (suc k) d x h = looked_at xs k d x h

  pub not_there : (xs : List A) (k : ℕ) (d : C) → None ≡ slice_get xs k → slice_index_or (map f (map g xs)) k d ≡ d
  not_there [] k d h = refl
  not_there (y ∷ xs) zero d h = absurd (none-some _ h)
  not_there (y ∷ xs) (suc k) d h = not_there xs k d h
