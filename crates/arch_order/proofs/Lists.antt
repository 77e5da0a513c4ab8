-- What is found in a list has what all have.
use Rattle.std.proofs.Common.{◌≡◌, List, [], ◌∷◌, Bool, true, false, cond, Option, Some, find, subst}
use Rattle.std.specs.Map.{lookup}
pub use Rattle.arch_types.proofs.Lists.{AllOf, all_both, all_left, all_right, all_more, all_contained, each_element}

found_by : {X : Type 0} (P : X → Type 0) (x y : X) (o : Option X) (b : Bool) → P x → (o ≡ Some y → P y) → cond b (Some x) o ≡ Some y → P y
found_by P x y o true h k e = let i : x ≡ y = cc in subst P i h
found_by P x y o false h k e = k e

-- what is found has what all have
pub found : {X : Type 0} (P : X → Type 0) (test : X → Bool) (xs : List X) (y : X) → AllOf P xs → find test xs ≡ Some y → P y
found P test [] y h e = cc
found P test (x ∷ xs) y h e = found_by P x y (find test xs) (test x) h.0 (found P test xs y h.1) e

pub looked_up : {K X : Type 0} (P : X → Type 0) (test : K → Bool) (es : List (K × X)) (y : X) → AllOf (λ e. P e.1) es → lookup test es ≡ Some y → P y
looked_up P test [] y h e = cc
looked_up P test (x ∷ es) y h e = found_by P x.1 y (lookup test es) (test x.0) h.0 (looked_up P test es y h.1) e
