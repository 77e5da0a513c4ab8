-- The greatest of some numbers.
use Rattle.std.proofs.Common.{◌≡◌, ℕ, ◌<◌, ◌+◌, max, List, [], ◌∷◌, ◌++◌, map, fold, take, length, length-append, get_or, refl, ap, ◌∙◌, arith}
use Rattle.std.proofs.lemmas.List.{take_more}
use Rattle.tower_types.specs.Records.{saturated}
use Rattle.tower_types.specs.Ty.{Ty, Fields, Shape, shape_in, shape_of_fields, table_of}
use Rattle.tower_syntax.specs.Arch.{Arch}
use Rattle.arch_checks.specs.declared.widths.Measure.{Measure}
use Rattle.arch_types.specs.Outline.{each}
use Rattle.arch_checks.specs.Sizes.{types_of_fields, bound_types, types_of, shapes, greatest}
use Rattle.arch_checks.specs.Measured.{measured, greatest_of}

pub greatest-append : {X : Type 0} (f : X → ℕ) (xs ys : List X) → greatest (map f (xs ++ ys)) ≡ max (greatest (map f xs)) (greatest (map f ys))
greatest-append f [] ys = omega arith
greatest-append f (x ∷ xs) ys = omega (arith, greatest-append f xs ys)

-- over a list that grows, of which each element gives a list
each_push : {X Y Z : Type 0} (f : Z → ℕ) (of : Y → List Z) (view : X → Y) (xs : List X) (y : X) → greatest (map f (each of (map view (xs ++ y ∷ [])))) ≡ max (greatest (map f (each of (map view xs)))) (greatest (map f (of (view y))))
each_push f of view [] y = greatest-append f (of (view y)) [] ∙ omega arith
each_push f of view (x ∷ xs) y =
    let rest = each of (map view (xs ++ y ∷ [])) in
    omega (arith, greatest-append f (of (view x)) rest, greatest-append f (of (view x)) (each of (map view xs)), each_push f of view xs y)

pub greatest_of_each-more : {X Y Z : Type 0} (f : Z → ℕ) (of : Y → List Z) (view : X → Y) (xs : List X) (i : ℕ) (d : X) → i < length xs → greatest (map f (each of (map view (take (i + 1) xs)))) ≡ max (greatest (map f (each of (map view (take i xs))))) (greatest (map f (of (view (get_or xs i d)))))
greatest_of_each-more f of view xs i d h = ap (λ ys. greatest (map f (each of (map view ys)))) (take_more xs i d h) ∙ each_push f of view (take i xs) (get_or xs i d)

-- over a list that grows, of which each element has a view
view_push : {X Y Z : Type 0} (f : Z → ℕ) (g : Y → Z) (view : X → Y) (xs : List X) (y : X) → greatest (map f (map g (map view (xs ++ y ∷ [])))) ≡ max (greatest (map f (map g (map view xs)))) (f (g (view y)))
view_push f g view [] y = omega arith
view_push f g view (x ∷ xs) y = omega (arith, view_push f g view xs y)

pub greatest_of_views-more : {X Y Z : Type 0} (f : Z → ℕ) (g : Y → Z) (view : X → Y) (xs : List X) (i : ℕ) (d : X) → i < length xs → greatest (map f (map g (map view (take (i + 1) xs)))) ≡ max (greatest (map f (map g (map view (take i xs))))) (f (g (view (get_or xs i d))))
greatest_of_views-more f g view xs i d h = ap (λ ys. greatest (map f (map g (map view ys)))) (take_more xs i d h) ∙ view_push f g view (take i xs) (get_or xs i d)

-- over a list that grows
push : {X : Type 0} (f : X → ℕ) (xs : List X) (y : X) → greatest (map f (xs ++ y ∷ [])) ≡ max (greatest (map f xs)) (f y)
push f [] y = omega arith
push f (x ∷ xs) y = omega (arith, push f xs y)

pub greatest-more : {X : Type 0} (f : X → ℕ) (xs : List X) (i : ℕ) (d : X) → i < length xs → greatest (map f (take (i + 1) xs)) ≡ max (greatest (map f (take i xs))) (f (get_or xs i d))
greatest-more f xs i d h = ap (λ ys. greatest (map f ys)) (take_more xs i d h) ∙ push f (take i xs) (get_or xs i d)

-- one more number, each cut
pub greatest_step : (most more out before here after : ℕ) → most ≡ saturated before → more ≡ saturated here → out ≡ max most more → after ≡ max before here → out ≡ saturated after
greatest_step most more out before here after t m o a = omega arith

-- there is a shape for each record
grown_length : (records : List Fields) (table : List Shape) → length (fold (λ t fields. t ++ shape_of_fields t fields ∷ []) table records) ≡ length table + length records
grown_length [] table = omega arith
grown_length (x ∷ xs) table = omega (arith, grown_length xs (table ++ shape_of_fields table x ∷ []), length-append table (shape_of_fields table x ∷ []))

pub table_length : (records : List Fields) → length (table_of records) ≡ length records
table_length records = omega (arith, grown_length records [])

fused : {X Y Z : Type 0} (f : Y → Z) (g : X → Y) (xs : List X) → map f (map g xs) ≡ map (λ x. f (g x)) xs
fused f g [] = refl
fused f g (x ∷ xs) = ap (λ r. f (g x) ∷ r) (fused f g xs)

-- all shapes are those of the records, messages, states and bound names
pub greatest_parts : (m : Measure) (arch : Arch) → greatest (map (measured m) (shapes arch))
    ≡ max (max (greatest (map (measured m) (table_of arch.records)))
    (max (greatest_of m (table_of arch.records) (map (λ s. s.message) arch.sources)) (greatest_of m (table_of arch.records) (map (λ c. c.message) arch.channels))))
    (max (greatest_of m (table_of arch.records) (each (λ x. types_of_fields x.states) arch.monitors)) (greatest_of m (table_of arch.records) (each bound_types arch.handlers)))
greatest_parts m arch =
    let table = table_of arch.records in
    let f : Ty → ℕ = λ t. measured m (shape_in table t) in
    let sources : List Ty = map (λ s. s.message) arch.sources in
    let channels : List Ty = map (λ c. c.message) arch.channels in
    let states : List Ty = each (λ x. types_of_fields x.states) arch.monitors in
    let names : List Ty = each bound_types arch.handlers in
    omega (
      arith,
      greatest-append (measured m) table (map (shape_in table) (types_of arch)),
      ap greatest (fused (measured m) (shape_in table) (types_of arch)),
      greatest-append f (sources ++ channels ++ states) names,
      greatest-append f (sources ++ channels) states,
      greatest-append f sources channels,
    )

pub cut_max : (a b x y out : ℕ) → x ≡ saturated a → y ≡ saturated b → out ≡ max x y → out ≡ saturated (max a b)
cut_max a b x y out h k e = omega (arith, h, k, e)
