-- The words of scalars and truths.
use Rattle.std.proofs.Common.{◌≡◌, ℕ, List, [], ◌∷◌, Bool, true, false, cond, refl, ap, sym, ◌∙◌, subst, Some, find}
use Rattle.std.specs.Prelude.{bytes_eq}
use Rattle.std.proofs.lemmas.Slice.Eq.{bytes_eq-Decides}
use Rattle.tower_types.specs.declared.scalar.Scalar.{Scalar}
use Rattle.tower_syntax.specs.Spelling.{is_name}
use Rattle.tower_syntax.specs.Words.{scalar_word, truth_word}
use Rattle.tower_reader.specs.Words.{scalars, scalar_named, truth_named}

abbrev pub AllOf : {X : Type 0} → (X → Type 0) → List X → Type 0
AllOf P [] = Unit {0}
AllOf P (x ∷ xs) = P x × AllOf P xs

abbrev pub Found : {X : Type 0} → (X → Type 0) → (X → Bool) → X → Type 0
Found P test x = P x × (test x ≡ true)

found_by : {X : Type 0} (P : X → Type 0) (test : X → Bool) (y : X) (ys : List X) (x : X) (b : Bool) → test y ≡ b → P y → (find test ys ≡ Some x → Found P test x) → cond b (Some y) (find test ys) ≡ Some x → Found P test x
found_by P test y ys x true e a ih h = let k : y ≡ x = cc in subst (Found P test) k (a, e)
found_by P test y ys x false e a ih h = ih h

-- what is found passes the test, and is one of those looked at
pub found : {X : Type 0} (P : X → Type 0) (test : X → Bool) (xs : List X) (x : X) → AllOf P xs → find test xs ≡ Some x → Found P test x
found P test [] x a h = cc
found P test (y ∷ ys) x a h = found_by P test y ys x (test y) refl a.0 (found P test ys x a.1) h

-- the word of a scalar is no name
pub scalar_no_name : (w : List ℕ) (s : Scalar) → scalar_named w ≡ Some s → is_name w ≡ false
scalar_no_name w s h =
    let f : Found (λ s. is_name (scalar_word s) ≡ false) (λ s. bytes_eq (scalar_word s) w) s = found (λ s. is_name (scalar_word s) ≡ false) (λ s. bytes_eq (scalar_word s) w) scalars s (refl, (refl, (refl, (refl, (refl, (refl, (refl, (refl, (refl, tt))))))))) h in
    let e : scalar_word s ≡ w = (bytes_eq-Decides (scalar_word s) w).0 f.1 in
    subst (λ w. is_name w ≡ false) e f.0

pub truth_is : (w : List ℕ) (b : Bool) → truth_named w ≡ Some b → (is_name w ≡ false) × (w ≡ truth_word b)
truth_is w b h =
    let f : Found (λ b. is_name (truth_word b) ≡ false) (λ b. bytes_eq (truth_word b) w) b = found (λ b. is_name (truth_word b) ≡ false) (λ b. bytes_eq (truth_word b) w) (true ∷ false ∷ []) b (refl, (refl, tt)) h in
    let e : truth_word b ≡ w = (bytes_eq-Decides (truth_word b) w).0 f.1 in
    (subst (λ w. is_name w ≡ false) e f.0, sym e)

truth_word_named : (b : Bool) → truth_named (truth_word b) ≡ Some b
truth_word_named true = refl
truth_word_named false = refl

pub truth_of : (w : List ℕ) (b : Bool) → w ≡ truth_word b → truth_named w ≡ Some b
truth_of w b e = ap truth_named e ∙ truth_word_named b
