-- Whether values fit, one more at a time.
use Rattle.std.proofs.Common.{◌≡◌, ℕ, zero, suc, ◌+◌, ◌<◌, ◌≤◌, List, [], ◌∷◌, ◌++◌, length, map, take, get_or, Bool, true, false, refl, ap, sym, ◌∙◌, arith}
use Rattle.std.proofs.lemmas.List.{take_more, take_all}
use Rattle.std.proofs.lemmas.Bool.{false≢true}
use Rattle.tower_types.specs.declared.ty.Ty.{Ty as TyValue}
use Rattle.tower_types.specs.declared.value.Value.{Value as ValueValue}
use Rattle.tower_types.specs.declared.value.Value.TheVariants as variant
use Rattle.tower_types.specs.Ty.{Name, Shape, many, Shapes, shapes_of, shape_in, shape_of_fields}
use Rattle.tower_types.specs.Value.{Value, parts, fits, fits_each, fits_all}
use Rattle.tower_types.specs.View.{ty_of, fields_of, value_of, all_values_of}
use Rattle.tower_types.proofs.Seen.{value_of-Parts}
use Rattle.tower_types.proofs.Flat.{both, joined}

pub false_unless : (b : Bool) → (b ≡ true → ⊥) → false ≡ b
false_unless true h = absurd (h refl)
false_unless false h = refl

pub each_count : (n : ℕ) (p : Value → Bool) (vs : List ValueValue) → fits_each n p (all_values_of vs) ≡ true → length vs ≡ n
each_count zero p [] h = refl
each_count zero p (v ∷ vs) h = absurd (false≢true h)
each_count (suc n) p [] h = absurd (false≢true h)
each_count (suc n) p (v ∷ vs) h = ap suc (each_count n p vs (both _ _ h).1)

pub each_at : (n : ℕ) (p : Value → Bool) (vs : List ValueValue) (i : ℕ) (v : ValueValue) → fits_each n p (all_values_of vs) ≡ true → i < length vs → v ≡ get_or vs i v → p (value_of v) ≡ true
each_at n p [] i v h le at = absurd (omega arith)
each_at zero p (x ∷ xs) i v h le at = absurd (false≢true h)
each_at (suc n) p (x ∷ xs) zero v h le at = ap (λ y. p (value_of y)) at ∙ (both _ _ h).0
each_at (suc n) p (x ∷ xs) (suc i) v h le at = each_at n p xs i v (both _ _ h).1 (omega arith) at

each_pushed : (n : ℕ) (p : Value → Bool) (vs : List ValueValue) (v : ValueValue) → fits_each n p (all_values_of vs) ≡ true → p (value_of v) ≡ true → fits_each (suc n) p (all_values_of (vs ++ v ∷ [])) ≡ true
each_pushed zero p [] v h k = joined _ true k refl
each_pushed zero p (x ∷ xs) v h k = absurd (false≢true h)
each_pushed (suc n) p [] v h k = absurd (false≢true h)
each_pushed (suc n) p (x ∷ xs) v h k = joined _ _ (both _ _ h).0 (each_pushed n p xs v (both _ _ h).1 k)

pub each_more : (p : Value → Bool) (vs : List ValueValue) (i : ℕ) (v : ValueValue) → fits_each i p (all_values_of (take i vs)) ≡ true → i < length vs → v ≡ get_or vs i v → p (value_of v) ≡ true → fits_each (i + 1) p (all_values_of (take (i + 1) vs)) ≡ true
each_more p vs i v h le at k =
    let one : i + 1 ≡ suc i = omega arith in
    let here : p (value_of (get_or vs i v)) ≡ true = ap (λ y. p (value_of y)) (sym at) ∙ k in
    ap (λ xs. fits_each (i + 1) p (all_values_of xs)) (take_more vs i v le) ∙ ap (λ n. fits_each n p (all_values_of (take i vs ++ get_or vs i v ∷ []))) one ∙ each_pushed i p (take i vs) (get_or vs i v) h here

-- the shapes of fields
abbrev pub shapes_at : List Shape → List (Name × TyValue) → Shapes
shapes_at table fields = shapes_of (map (λ f. shape_in table f.1) (fields_of fields))

pub all_count : (table : List Shape) (fields : List (Name × TyValue)) (vs : List ValueValue) → fits_all (shapes_at table fields) (all_values_of vs) ≡ true → length vs ≡ length fields
all_count table [] [] h = refl
all_count table [] (v ∷ vs) h = absurd (false≢true h)
all_count table (f ∷ fs) [] h = absurd (false≢true h)
all_count table (f ∷ fs) (v ∷ vs) h = ap suc (all_count table fs vs (both _ _ h).1)

pub all_at : (table : List Shape) (fields : List (Name × TyValue)) (vs : List ValueValue) (i : ℕ) (f : Name × TyValue) (v : ValueValue) → fits_all (shapes_at table fields) (all_values_of vs) ≡ true → i < length vs → f ≡ get_or fields i f → v ≡ get_or vs i v → fits (shape_in table (ty_of f.1)) (value_of v) ≡ true
all_at table fields [] i f v h le at_f at_v = absurd (omega arith)
all_at table [] (x ∷ xs) i f v h le at_f at_v = absurd (false≢true h)
all_at table (g ∷ gs) (x ∷ xs) zero f v h le at_f at_v =
    ap (λ k. fits (shape_in table (ty_of k.1)) (value_of v)) at_f ∙ ap (λ y. fits (shape_in table (ty_of g.1)) (value_of y)) at_v ∙ (both _ _ h).0
all_at table (g ∷ gs) (x ∷ xs) (suc i) f v h le at_f at_v = all_at table gs xs i f v (both _ _ h).1 (omega arith) at_f at_v

all_pushed : (table : List Shape) (fields : List (Name × TyValue)) (vs : List ValueValue) (f : Name × TyValue) (v : ValueValue) → fits_all (shapes_at table fields) (all_values_of vs) ≡ true → fits (shape_in table (ty_of f.1)) (value_of v) ≡ true → fits_all (shapes_at table (fields ++ f ∷ [])) (all_values_of (vs ++ v ∷ [])) ≡ true
all_pushed table [] [] f v h k = joined _ true k refl
all_pushed table [] (x ∷ xs) f v h k = absurd (false≢true h)
all_pushed table (g ∷ gs) [] f v h k = absurd (false≢true h)
all_pushed table (g ∷ gs) (x ∷ xs) f v h k = joined _ _ (both _ _ h).0 (all_pushed table gs xs f v (both _ _ h).1 k)

pub all_more : (table : List Shape) (fields : List (Name × TyValue)) (vs : List ValueValue) (i : ℕ) (f : Name × TyValue) (v : ValueValue) → fits_all (shapes_at table (take i fields)) (all_values_of (take i vs)) ≡ true → i < length fields → i < length vs → f ≡ get_or fields i f → v ≡ get_or vs i v → fits (shape_in table (ty_of f.1)) (value_of v) ≡ true → fits_all (shapes_at table (take (i + 1) fields)) (all_values_of (take (i + 1) vs)) ≡ true
all_more table fields vs i f v h le_f le_v at_f at_v k =
    let g = get_or fields i f in
    let y = get_or vs i v in
    let here : fits (shape_in table (ty_of g.1)) (value_of y) ≡ true = ap (λ z. fits (shape_in table (ty_of z.1)) (value_of y)) (sym at_f) ∙ ap (λ z. fits (shape_in table (ty_of f.1)) (value_of z)) (sym at_v) ∙ k in
    ap (λ fs. fits_all (shapes_at table fs) (all_values_of (take (i + 1) vs))) (take_more fields i f le_f) ∙ ap (λ xs. fits_all (shapes_at table (take i fields ++ g ∷ [])) (all_values_of xs)) (take_more vs i v le_v) ∙ all_pushed table (take i fields) (take i vs) g y h here

-- a list of values, as a match and a slice show it
pub parts_seen : (v : ValueValue) (ps seen : List ValueValue) → v ≡ variant.Parts ps → seen ≡ ps → value_of v ≡ parts (all_values_of seen)
parts_seen v ps seen is same = ap value_of is ∙ value_of-Parts ps ∙ ap (λ l. parts (all_values_of l)) (sym same)

-- where every part of a list was looked at, the value fits
pub array_whole : (n : ℕ) (s : Shape) (v : ValueValue) (ps seen : List ValueValue) (i : ℕ) → v ≡ variant.Parts ps → seen ≡ ps → length seen ≡ n → length seen ≤ i → i ≤ length seen → fits_each i (fits s) (all_values_of (take i seen)) ≡ true → true ≡ fits (many n s) (value_of v)
array_whole n s v ps seen i is same count le ge h =
    let whole : i ≡ n = omega arith in
    sym h ∙ ap (λ l. fits_each i (fits s) (all_values_of l)) (take_all i seen le) ∙ ap (λ k. fits_each k (fits s) (all_values_of seen)) whole ∙ ap (fits (many n s)) (sym (parts_seen v ps seen is same))

pub record_whole : (table : List Shape) (fields : List (Name × TyValue)) (v : ValueValue) (ps seen : List ValueValue) (i : ℕ) → v ≡ variant.Parts ps → seen ≡ ps → length seen ≡ length fields → length seen ≤ i → fits_all (shapes_at table (take i fields)) (all_values_of (take i seen)) ≡ true → true ≡ fits (shape_of_fields table (fields_of fields)) (value_of v)
record_whole table fields v ps seen i is same count le h =
    sym h ∙ ap (λ l. fits_all (shapes_at table (take i fields)) (all_values_of l)) (take_all i seen le) ∙ ap (λ fs. fits_all (shapes_at table fs) (all_values_of seen)) (take_all i fields (omega arith)) ∙ ap (fits (shape_of_fields table (fields_of fields))) (sym (parts_seen v ps seen is same))
