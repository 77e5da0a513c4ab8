-- The states of a monitor with the texts of their values.
use Rattle.std.proofs.Common.{◌≡◌, ℕ, ◌^◌, ◌<◌, min, ℤ, List, length, take, drop, get_or, sym, ap, ◌∙◌, arith}
use Rattle.std.specs.List.{zip}
use Rattle.std.proofs.lemmas.List.{length-map}
use Rattle.tower_types.specs.Ty.{Name, Records, shape_of, shapes_of, words}
use Rattle.tower_types.specs.Records.{saturated}
use Rattle.tower_types.specs.View.{ty_of, fields_of, value_of, all_values_of}
use Rattle.tower_types.specs.declared.value.Value.{Value as ValueValue}
use Rattle.tower_report.proofs.Listed.{values_length, value_at}
use Rattle.tower_types.specs.declared.ty.Ty.{Ty as TyValue}
use Rattle.tower_report.specs.Bytes.{Bytes}
use Rattle.tower_report.specs.ValueText.{words_text, texts_of_words, value_text, texts_of_values, shapes_in, shapes_words}
use Rattle.tower_report.proofs.Lines.{zip_length, zip_at}
use Rattle.tower_report.proofs.Shapes.{IsAtField, shapes_length, fields_count}
use Rattle.tower_report.proofs.Cuts.{field_text, fields_length, field_fits}

abbrev texts : Records → List (Name × TyValue) → List ℤ → List Bytes
texts records states ws = texts_of_words (shapes_of (shapes_in records (fields_of states))) ws

even : (records : Records) (states : List (Name × TyValue)) (ws : List ℤ) → length (texts records states ws) ≡ length (fields_of states)
even records states ws =
    fields_length (shapes_in records (fields_of states)) ws ∙ length-map (fields_of states) (λ f. shape_of records f.1)

pub rows_length : (records : Records) (states : List (Name × TyValue)) (ws : List ℤ) → length (zip (fields_of states) (texts records states ws)) ≡ length states
rows_length records states ws =
    let rows = zip_length (fields_of states) (texts records states ws) in
    omega (arith, rows, even records states ws, fields_count states)

-- the state that a loop is at, where `part` are its words
pub state_row : (records : Records) (states : List (Name × TyValue)) (i : ℕ) (x : Name × TyValue) (ws rest part : List ℤ) (width : ℕ) → IsAtField records states i x → length ws ≡ shapes_words (shapes_in records (fields_of states)) → rest ≡ drop (shapes_words (take i (shapes_in records (fields_of states)))) ws → length rest < 2 ^ 64 → width ≡ saturated (words (shape_of records (ty_of x.1))) → part ≡ take width rest → (i < length (zip (fields_of states) (texts records states ws))) × (get_or (zip (fields_of states) (texts records states ws)) i ((x.0, ty_of x.1), words_text (shape_of records (ty_of x.1)) part) ≡ ((x.0, ty_of x.1), words_text (shape_of records (ty_of x.1)) part))
state_row records states i x ws rest part width at whole left small wide front =
    let ss = shapes_in records (fields_of states) in
    let s = shape_of records (ty_of x.1) in
    let within : i < length (fields_of states) = omega (arith, at.within, length-map (fields_of states) (λ f. shape_of records f.1)) in
    let fits = field_fits ss i s ws rest at.within at.shape whole left in
    let same : words s ≡ width = omega (arith, fits, wide, small) in
    let here = field_text ss i s ws rest (words_text s part) at.within at.shape left ∙ ap (λ k. words_text s (take k rest)) same ∙ ap (words_text s) (sym front) in
    let row = zip_at (fields_of states) (texts records states ws) i (x.0, ty_of x.1) (words_text s part) within (omega (arith, within, even records states ws)) at.here here in
    (omega (arith, within, even records states ws, zip_length (fields_of states) (texts records states ws)), row)

-- ---- from a list of values

abbrev value_texts : Records → List (Name × TyValue) → List ValueValue → List Bytes
value_texts records states vs = texts_of_values (shapes_of (shapes_in records (fields_of states))) (all_values_of vs)

pub value_rows_length : (records : Records) (states : List (Name × TyValue)) (vs : List ValueValue) → length (zip (fields_of states) (value_texts records states vs)) ≡ min (length states) (length vs)
value_rows_length records states vs =
    let rows = zip_length (fields_of states) (value_texts records states vs) in
    omega (arith, rows, values_length (shapes_in records (fields_of states)) vs, shapes_length records states, fields_count states)

-- the state that a loop is at
pub value_row : (records : Records) (states : List (Name × TyValue)) (i : ℕ) (x : Name × TyValue) (vs : List ValueValue) (v : ValueValue) → IsAtField records states i x → i < length vs → v ≡ get_or vs i v → (i < length (zip (fields_of states) (value_texts records states vs))) × (get_or (zip (fields_of states) (value_texts records states vs)) i ((x.0, ty_of x.1), value_text (shape_of records (ty_of x.1)) (value_of v)) ≡ ((x.0, ty_of x.1), value_text (shape_of records (ty_of x.1)) (value_of v)))
value_row records states i x vs v at h is =
    let ss = shapes_in records (fields_of states) in
    let s = shape_of records (ty_of x.1) in
    let rows = value_rows_length records states vs in
    let within : i < length (fields_of states) = omega (arith, at.within, length-map (fields_of states) (λ f. shape_of records f.1)) in
    let count : i < length (value_texts records states vs) = omega (arith, at.within, values_length ss vs) in
    let text = value_at ss vs i s v (value_text s (value_of v)) at.within h at.shape is in
    (omega (arith, within, count, zip_length (fields_of states) (value_texts records states vs)), zip_at (fields_of states) (value_texts records states vs) i (x.0, ty_of x.1) (value_text s (value_of v)) within count at.here text)
