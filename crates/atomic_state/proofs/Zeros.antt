-- Zero values.
use Rattle.std.proofs.Common.{◌≡◌, ◌∙◌, ℕ, zero, suc, ◌+◌, ◌<◌, ◌≤◌, List, [], ◌∷◌, ◌++◌, length, map, take, get_or, replicate, refl, ap, sym, add-one, arith}
use Rattle.std.proofs.lemmas.List.{map-append, take_all}
use Rattle.tower_types.specs.Ty.{Ty, Name, Fields, Records, Shape, one, many, all, shapes_of, shape_in, shape_of, table_of, shape_of_fields, array, scalar}
use Rattle.tower_types.specs.Value.{Value, Values, word, parts, values_of, no_values, value, copies, zero_of, zeros_of}
use Rattle.tower_types.specs.View.{ty_of, fields_of}
use Rattle.tower_types.specs.declared.ty.Ty.{Ty as TyValue}
use Rattle.tower_meaning.specs.Body.{zeros_of_fields}

replicate_push : (n : ℕ) (z : Value) → replicate n z ++ z ∷ [] ≡ z ∷ replicate n z
replicate_push zero z = refl
replicate_push (suc n) z = ap (λ l. z ∷ l) (replicate_push n z)

-- one more element that is zero
pub one_more_zero : (zs ys : List Value) (n : ℕ) (x z : Value) → ys ≡ zs ++ x ∷ [] → zs ≡ replicate n z → x ≡ z → ys ≡ replicate (n + 1) z
one_more_zero zs ys n x z e f is =
    e ∙ ap (λ l. l ++ x ∷ []) f ∙ ap (λ y. replicate n z ++ y ∷ []) is ∙ replicate_push n z ∙ ap (λ k. replicate k z) (sym (add-one n))

pub copied : (n : ℕ) (z : Value) → values_of (replicate n z) ≡ copies n z
copied zero z = refl
copied (suc n) z = ap (value z) (copied n z)

pub listed_zeros : (table : List Shape) (fields : Fields) → values_of (zeros_of_fields table fields) ≡ zeros_of (shapes_of (map (λ f. shape_in table f.1) fields))
listed_zeros table [] = refl
listed_zeros table (f ∷ fs) = ap (value (zero_of (shape_in table f.1))) (listed_zeros table fs)

-- one more field
fields_more : (table : List Shape) (fields : List (Name × TyValue)) (i : ℕ) (x : Name × TyValue) → i < length fields → x ≡ get_or fields i x
    → zeros_of_fields table (fields_of (take (i + 1) fields)) ≡ zeros_of_fields table (fields_of (take i fields)) ++ zero_of (shape_in table (ty_of x.1)) ∷ []
fields_more table fields i x lt read = ap (λ k. zeros_of_fields table (fields_of (take k fields))) (add-one i) ∙ by fields i lt read
  where
    by : (fs : List (Name × TyValue)) (j : ℕ) → j < length fs → x ≡ get_or fs j x
        → zeros_of_fields table (fields_of (take (suc j) fs)) ≡ zeros_of_fields table (fields_of (take j fs)) ++ zero_of (shape_in table (ty_of x.1)) ∷ []
    by [] j lt read = absurd (omega arith)
    by (f ∷ fs) zero lt read = ap (λ (y : Name × TyValue). zero_of (shape_in table (ty_of y.1)) ∷ []) (sym read)
    by (f ∷ fs) (suc j) lt read = ap (λ l. zero_of (shape_in table (ty_of f.1)) ∷ l) (by fs j (omega arith) read)

pub one_more_field : (table : List Shape) (fields : List (Name × TyValue)) (zs ys : List Value) (i : ℕ) (x : Name × TyValue) (z : Value) → i < length fields → x ≡ get_or fields i x
    → ys ≡ zs ++ z ∷ [] → zs ≡ zeros_of_fields table (fields_of (take i fields)) → z ≡ zero_of (shape_in table (ty_of x.1)) → ys ≡ zeros_of_fields table (fields_of (take (i + 1) fields))
one_more_field table fields zs ys i x z lt read e f is =
    e ∙ ap (λ l. l ++ z ∷ []) f ∙ ap (λ y. zeros_of_fields table (fields_of (take i fields)) ++ y ∷ []) is ∙ sym (fields_more table fields i x lt read)

pub all_fields : (table : List Shape) (fields : List (Name × TyValue)) (zs : List Value) (i : ℕ) → length fields ≤ i → zs ≡ zeros_of_fields table (fields_of (take i fields)) → zs ≡ zeros_of_fields table (fields_of fields)
all_fields table fields zs i le e = e ∙ ap (λ fs. zeros_of_fields table (fields_of fs)) (take_all i fields le)
