-- Lists of values, sources and entries, one more at a time.
use Rattle.std.proofs.Common.{◌≡◌, ◌∙◌, ℕ, zero, suc, ◌+◌, ◌<◌, ◌≤◌, max, true, false, length, get_or, take, map, List, [], ◌∷◌, ◌++◌, Option, Some, slice_get, ap, sym, refl, arith, subst}
use Rattle.std.specs.Prelude.{All, IsTrue}
use Rattle.std.proofs.lemmas.Bool.{false≢true}
use Rattle.std.proofs.lemmas.List.{take_more, length-map, get_or-map}
use Rattle.std.proofs.lemmas.List.Elements.{All-get_or}
use Rattle.std.proofs.lemmas.Option.{get_or_from_slice_get, slice_get-get_or}
use Rattle.tower_types.specs.declared.value.Value.{Value as ValueValue}
use Rattle.tower_types.specs.Value.{value_depth, depth_of_values}
use Rattle.tower_types.specs.View.{value_of, all_values_of}
use Rattle.tower_syntax.specs.declared.arch.SourceKind.{SourceKind}
use Rattle.task_code.specs.declared.program.Task.{Task}
use Rattle.task_code.specs.Fits.{FitsKind}

depth_push : (xs : List ValueValue) (y : ValueValue) → depth_of_values (all_values_of (xs ++ y ∷ [])) ≡ max (depth_of_values (all_values_of xs)) (value_depth (value_of y))
depth_push [] y = omega arith
depth_push (x ∷ xs) y = omega (arith, depth_push xs y)

pub depth_more : (xs : List ValueValue) (i : ℕ) (d : ValueValue) → i < length xs → depth_of_values (all_values_of (take (i + 1) xs)) ≡ max (depth_of_values (all_values_of (take i xs))) (value_depth (value_of (get_or xs i d)))
depth_more xs i d h = ap (λ ys. depth_of_values (all_values_of ys)) (take_more xs i d h) ∙ depth_push (take i xs) (get_or xs i d)

-- no part is deeper than the deepest
pub part_depth : (xs : List ValueValue) (i : ℕ) (d : ValueValue) → i < length xs → value_depth (value_of (get_or xs i d)) ≤ depth_of_values (all_values_of xs)
part_depth [] i d h = absurd (omega arith)
part_depth (x ∷ xs) zero d h = omega arith
part_depth (x ∷ xs) (suc i) d h = omega (arith, part_depth xs i d (omega arith))

-- an answer of false, where the fact that it denies does not hold
pub denies : {A : Type 0} → (A → false ≡ true) → (IsTrue false → A) × (A → IsTrue false)
denies f = (λ b. absurd (false≢true b), f)

pub affirms : {A : Type 0} → A → (IsTrue true → A) × (A → IsTrue true)
affirms a = (λ b. a, λ h. refl)

-- what is tested at an index is what stands there
pub kind_here : (kinds : List SourceKind) (tasks : List Task) (depths : List (Option ℕ)) (i : ℕ) (item : Task) (dk : SourceKind) (dd : Option ℕ) → FitsKind (get_or kinds i dk) item (get_or depths i dd) → item ≡ get_or tasks i item → (k : SourceKind) (t : Task) (d : Option ℕ) → slice_get kinds i ≡ Some k → slice_get tasks i ≡ Some t → slice_get depths i ≡ Some d → FitsKind k t d
kind_here kinds tasks depths i item dk dd f is k t d a b e =
    let at_k : get_or kinds i dk ≡ k = get_or_from_slice_get kinds i k dk a in
    let at_t : item ≡ t = is ∙ get_or_from_slice_get tasks i t item b in
    let at_d : get_or depths i dd ≡ d = get_or_from_slice_get depths i d dd e in
    subst (λ d. FitsKind k t d) at_d (subst (λ t. FitsKind k t (get_or depths i dd)) at_t (subst (λ k. FitsKind k item (get_or depths i dd)) at_k f))

pub kind_there : (kinds : List SourceKind) (tasks : List Task) (depths : List (Option ℕ)) (i : ℕ) (item : Task) (dk : SourceKind) (dd : Option ℕ) → i < length kinds → i < length tasks → i < length depths → item ≡ get_or tasks i item → ((x : ℕ) (k : SourceKind) (t : Task) (d : Option ℕ) → slice_get kinds x ≡ Some k → slice_get tasks x ≡ Some t → slice_get depths x ≡ Some d → FitsKind k t d) → FitsKind (get_or kinds i dk) item (get_or depths i dd)
kind_there kinds tasks depths i item dk dd a b e is each =
    each i (get_or kinds i dk) item (get_or depths i dd) (slice_get-get_or kinds i dk a) (slice_get-get_or tasks i item b ∙ ap Some (sym is)) (slice_get-get_or depths i dd e)

pub mapped_at : {X Y : Type 0} (P : Y → Type 0) (f : X → Y) (xs : List X) (i : ℕ) (x : X) → i < length xs → x ≡ get_or xs i x → All P (map f xs) → P (f x)
mapped_at P f xs i x h is all =
    subst P (get_or-map f xs i x (f x) h ∙ ap f (sym is)) (All-get_or P (map f xs) i (f x) (subst (λ n. i < n) (sym (length-map xs f)) h) all)
